-- The points round a ring, and how it turns at its least point.
use Rattle.std.specs.Prelude.{◌≡◌, ℕ, ◌<◌, ◌≤◌, Bool, true, false, int_lt, pos, List, [], ◌∷◌, ◌++◌, take}
use Rattle.std.specs.List.{flat_map}
use Rattle.lists.specs.Lists.{without_last}
use Rattle.plane_model.specs.Points.{Path, is_before}
use Rattle.plane_model.specs.Arcs.{SignedArc, points_of}
use Rattle.plane_model.specs.Rings.{turn_at_least}
use Rattle.arc_table.specs.Direction.{point_at}

-- the points of signed arcs, each arc without its last, with which the next one starts
abbrev pub points_along : List Path → List SignedArc → Path
points_along arcs ring = flat_map (λ (a : SignedArc). without_last (points_of arcs a)) ring

-- points with the first again at the end
abbrev pub closed : Path → Path
closed points = points ++ take 1 points

-- the points round a ring, back to where it starts
abbrev pub round_of : List Path → List SignedArc → Path
round_of arcs ring = closed (points_along arcs ring)

-- of the points from the second up to a place, k is the first place of the least
pub record IsFirstLeast (points : Path) (end k : ℕ) : Type 0 where
  pub later : 0 < k
  pub within : k < end
  pub least : (j : ℕ) → 0 < j → j < end → is_before (point_at points j) (point_at points k) ≡ false
  pub first : (j : ℕ) → 0 < j → j < k → is_before (point_at points k) (point_at points j) ≡ true

-- a ring turns left at its least point: it is an exterior
abbrev pub is_left : List Path → List SignedArc → Bool
is_left arcs ring = int_lt (pos 0) (turn_at_least (round_of arcs ring))

-- the number of the arc that a ring begins with
abbrev pub first_number : List SignedArc → ℕ
first_number [] = 0
first_number (a ∷ rest) = a.arc

-- a ring may stand before another: not a hole before an exterior, and of two exteriors or two holes not the one with
-- the greater first arc
pub record MayStandBefore (arcs : List Path) (g h : List SignedArc) : Type 0 where
  pub exteriors_first : is_left arcs h ≡ true → is_left arcs g ≡ true
  pub in_order : is_left arcs g ≡ is_left arcs h → first_number g ≤ first_number h
