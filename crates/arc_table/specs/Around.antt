-- The signed arcs that start at a vertex, in turn.
use Rattle.std.specs.Prelude.{◌≡◌, ◌≢◌, ◌-◌, ◌/◌, ◌%◌, ◌<◌, ℕ, zero, suc, pos, Bool, false, ◌&&◌, ◌||◌, nat_lt, nat_eq, int_lt, if◌then◌else◌, List, [], ◌∷◌, ◌++◌, map, All, AllPairs, Contains, length, slice_index_or}
use Rattle.std.specs.List.Sorted.{IsPermutation, IsSortedBy}
use Rattle.plane_model.specs.Points.{GridPoint, Segment, Path, same_point, is_before, cross}
use Rattle.plane_model.specs.Arcs.{SignedArc, forward, backward, goes_up}
use Rattle.arc_table.specs.Direction.{point_at}

-- the first n arcs, each forward and then reversed
abbrev pub signed_below : ℕ → List SignedArc
signed_below zero = []
signed_below (suc n) = signed_below n ++ forward n ∷ backward n ∷ []

-- the signed arc with a code: twice the number of its arc, and one more where it is reversed
abbrev pub signed_of : ℕ → SignedArc
signed_of code = if nat_eq (code % 2) 0 then forward (code / 2) else backward (code / 2)

-- the step that a signed arc begins with
abbrev pub first_step : List Path → SignedArc → Segment
first_step arcs a =
    let points = slice_index_or arcs a.arc [] in
    let last = length points - 1 in
    if a.is_reversed then record { start = point_at points last; stop = point_at points (last - 1) }
    else record { start = point_at points 0; stop = point_at points 1 }

abbrev pub start_of : List Path → SignedArc → GridPoint
start_of arcs a = (first_step arcs a).start

-- 0 for a step up or along the positive x axis, 1 for another, and 2 for one that stays where it is
abbrev pub half_of : Segment → ℕ
half_of s = if goes_up s then 0 else if same_point s.start s.stop then 2 else 1

-- counterclockwise from the positive x axis
abbrev pub comes_round_first : Segment → Segment → Bool
comes_round_first s t = nat_lt (half_of s) (half_of t) || (nat_eq (half_of s) (half_of t) && int_lt (pos 0) (cross s t))

-- by start, and at one start counterclockwise
abbrev pub comes_first : Segment → Segment → Bool
comes_first s t = is_before s.start t.start || (same_point s.start t.start && comes_round_first s t)

-- the signed arcs of a table by start and in turn, and their starts
pub record IsTurned (arcs : List Path) (starts : List GridPoint) (outs : List SignedArc) : Type 0 where
  pub starts_of : starts ≡ map (start_of arcs) outs
  pub all : IsPermutation (signed_below (length arcs)) outs
  pub sorted : IsSortedBy (λ a b. comes_first (first_step arcs a) (first_step arcs b)) outs

-- exactly the signed arcs that start at p, each once, counterclockwise from the positive x axis
pub record IsAround (arcs : List Path) (p : GridPoint) (around : List SignedArc) : Type 0 where
  pub all : (a : SignedArc) → a.arc < length arcs → start_of arcs a ≡ p → Contains around a
  pub others : All (λ a. (a.arc < length arcs) × (start_of arcs a ≡ p)) around
  pub once : AllPairs (λ a b. a ≢ b) around
  pub in_turn : AllPairs (λ a b. comes_round_first (first_step arcs b) (first_step arcs a) ≡ false) around
