-- A path that passes no node is gone along from its least vertex.
use Rattle.std.proofs.Common.{◌≡◌, inl, inr, refl, sym, ap, ◌∙◌, subst, arith, ℕ, zero, suc, ◌+◌, ◌-◌, ◌<◌, Bool, true, false, List, [], ◌∷◌, ◌++◌, length, get_or, take, drop, length-take, length-drop, All}
use Rattle.std.proofs.lemmas.Bool.{cases_lt}
use Rattle.std.proofs.lemmas.List.{get_or-append-add, get_or-drop, get_or-take, get_or_append_left, get_or_default, length-append, length-reverse}
use Rattle.std.proofs.lemmas.List.Elements.{All-nil, All-cons, All-head, All-tail}
use Rattle.lists.specs.Lists.{tail, without_last}
use Rattle.plane_model.specs.Points.{GridPoint, Path, is_before}
use Rattle.plane_model.specs.Drawing.{Drawing}
use Rattle.plane_model.specs.Arcs.{SignedArc, joined_points, points_of}
use Rattle.plane_model.specs.Joined.{IsClosed}
use Rattle.arc_table.specs.Direction.{point_at}
use Rattle.arc_table.specs.PathArcs.{AreArcsAlong, AreArcsOf, BeginsAtLeast, RunsFrom, round_from}
use Rattle.arc_table.specs.WholeArcs.{IsPassed, StartsAtLeast}
use Rattle.arc_table.proofs.DrawnPaths.{closed_at, tail_at}
use Rattle.arc_table.proofs.Everywhere.{All-joined}
use Rattle.arc_table.proofs.WholeBack.{back_least}

-- ---- joined points

module _ (arcs : List Path) where
  -- they begin with those of the first arc
  joined_first : (a : SignedArc) (rest : List SignedArc) → 1 < length (points_of arcs a) → point_at (joined_points arcs (a ∷ rest)) 0 ≡ point_at (points_of arcs a) 0
  joined_first a [] l = refl
  joined_first a (b ∷ rest) l = before (points_of arcs a) (joined_points arcs (b ∷ rest)) l
    where
      before : (xs ys : Path) → 1 < length xs → point_at (without_last xs ++ ys) 0 ≡ point_at xs 0
      before [] ys l = absurd (omega arith)
      before (x ∷ []) ys l = absurd (omega arith)
      before (x ∷ y ∷ xs) ys l = refl

  -- and are points of the arcs
  joined_all : (P : GridPoint → Type 0) (named : List SignedArc) → All (λ a. All P (points_of arcs a)) named → All P (joined_points arcs named)
  joined_all P [] h = All-nil P
  joined_all P (a ∷ []) h = All-head (λ b. All P (points_of arcs b)) a [] h
  joined_all P (a ∷ b ∷ rest) h =
      All-joined P (without_last (points_of arcs a)) (joined_points arcs (b ∷ rest)) (but_last (points_of arcs a) (All-head (λ c. All P (points_of arcs c)) a (b ∷ rest) h))
      (joined_all P (b ∷ rest) (All-tail (λ c. All P (points_of arcs c)) a (b ∷ rest) h))
    where
      but_last : (xs : Path) → All P xs → All P (without_last xs)
      but_last [] h = h
      but_last (x ∷ []) h = All-nil P
      but_last (x ∷ y ∷ xs) h = All-cons P x (without_last (y ∷ xs)) (All-head P x (y ∷ xs) h) (but_last (y ∷ xs) (All-tail P x (y ∷ xs) h))

-- ---- a closed path, gone round from one of its vertices

tail_size : (ps : Path) → 0 < length ps → suc (length (tail ps)) ≡ length ps
tail_size [] l = absurd (omega arith)
tail_size (p ∷ ps) l = refl

module _ (path : Path) (closed : IsClosed path) (first : ℕ) (there : first + 1 < length path) where
  abbrev ahead : Path
  ahead = drop first path

  abbrev past : Path
  past = take first (tail path)

  size_ahead : length ahead ≡ length path - first
  size_ahead = length-drop first path

  start_is : point_at (round_from first path) 0 ≡ point_at path first
  start_is =
      let s = size_ahead in
      get_or_append_left ahead past _ 0 (omega arith) ∙ get_or-drop first path 0 _ ∙ ap (point_at path) (let e : first + 0 ≡ first = omega arith in e)

  abbrev IsAt : ℕ → Type 0
  IsAt k = (i : ℕ) × (i < length (round_from first path)) × (point_at (round_from first path) i ≡ point_at path k)

  from_ahead : (k : ℕ) → k < length path → (k < first → ⊥) → IsAt k
  from_ahead k l more =
      let s = size_ahead in
      let t = length-append ahead past in
      elim (cases_lt k first) [
        | inl less ↦ absurd (more less)
        | inr m ↦ (
          k - first,
          omega arith,
          get_or_append_left ahead past _ (k - first) (omega arith) ∙ get_or-drop first path (k - first) _ ∙ ap (point_at path) (let e : first + (k - first) ≡ k = omega arith in e),
        )
      ]

  place_of : (k : ℕ) → k < length path → IsAt k
  place_of zero l =
      let n = length path - 1 in
      let (i, m, is) = from_ahead (length path - 1) (omega arith) (λ less. omega arith) in
      (i, m, is ∙ closed_at path (length path - 1) (omega arith) closed)
  place_of (suc j) l = elim (cases_lt (suc j) first) [
    | inl less ↦ (
        let t = length-append ahead past in
        let u = length-take first (tail path) in
        let v = tail_size path (omega arith) in (
          length ahead + j,
          omega arith,
          get_or-append-add ahead past j _ ∙ get_or-take first (tail path) j _ (omega arith) ∙ tail_at path j,
        ))
    | inr more ↦ from_ahead (suc j) l (λ less. omega arith)
  ]

  all_path : (P : GridPoint → Type 0) → All P (round_from first path) → All P path
  all_path P h k e l = let (i, m, is) = place_of k l in subst P (is ∙ get_or_default path k _ e l) (h i _ m)

-- ---- the arc of a path that passes no node

module _ (arcs : List Path) (d : Drawing) (table : AreArcsOf d arcs) (least : All (StartsAtLeast d) arcs) (a : SignedArc) (below : a.arc < length arcs) where
  long : 1 < length (points_of arcs a)
  long = let l = table.long a.arc [] below in go a.is_reversed l
    where
      go : (b : Bool) → 1 < length (get_or arcs a.arc []) → 1 < length (points_of arcs (record { arc = a.arc; is_reversed = b }))
      go false l = l
      go true l = let s = length-reverse (get_or arcs a.arc []) in omega arith

  starts_at_least : StartsAtLeast d (points_of arcs a)
  starts_at_least = go a.is_reversed
    where
      go : (b : Bool) → StartsAtLeast d (points_of arcs (record { arc = a.arc; is_reversed = b }))
      go false = least a.arc [] below
      go true = back_least d (get_or arcs a.arc []) (table.long a.arc [] below) (table.whole a.arc [] below) (least a.arc [] below)

  none_before : IsPassed d (point_at (points_of arcs a) 0) → All (λ p. is_before p (point_at (points_of arcs a) 0) ≡ false) (points_of arcs a)
  none_before start k e l =
      subst (λ (p : GridPoint). is_before p (point_at (points_of arcs a) 0) ≡ false) (get_or_default (points_of arcs a) k _ e l) (starts_at_least start k l)

pub begins_at_least : (arcs : List Path) (path : Path) (named : List SignedArc) → All (λ a. a.arc < length arcs) named → AreArcsAlong arcs path named → BeginsAtLeast arcs path named
begins_at_least arcs path named below h d table least drawn longer round = go named below round.same r.joined
  where
    r : RunsFrom d arcs path named
    r = (h d table drawn).along longer

    closed : IsClosed path
    closed = elim drawn [
      | inl line ↦ absurd ((round.passed 0 (omega arith)).plain (inl (path, line, inl (record { some = omega arith; ends = inl refl }))))
      | inr c ↦ c.1
    ]

    go : (named : List SignedArc) → All (λ a. a.arc < length arcs) named → All (λ a. a ≡ round.one) named → joined_points arcs named ≡ round_from r.first path →
        All (λ p. is_before p (point_at (joined_points arcs named) 0) ≡ false) path
    go [] below same is =
        let l = r.there in
        let s = size_ahead path closed r.first r.there in
        let t = length-append (drop r.first path) (take r.first (tail path)) in
        let e : 0 ≡ length (round_from r.first path) = ap (λ (ps : Path). length ps) is in
        absurd (omega arith)
    go (a ∷ rest) below same is =
        let there : a.arc < length arcs = All-head (λ b. b.arc < length arcs) a rest below in
        let first : point_at (joined_points arcs (a ∷ rest)) 0 ≡ point_at (points_of arcs a) 0 = joined_first arcs a rest (long arcs d table least a there) in
        let here : point_at (points_of arcs a) 0 ≡ point_at path r.first = sym first ∙ ap (λ (ps : Path). point_at ps 0) is ∙ start_is path closed r.first r.there in
        let start : IsPassed d (point_at (points_of arcs a) 0) = subst (IsPassed d) (sym here) (round.passed r.first (let l = r.there in omega arith)) in
        let P : GridPoint → Type 0 = λ p. is_before p (point_at (points_of arcs a) 0) ≡ false in
        let all : All P (joined_points arcs (a ∷ rest)) =
        joined_all arcs P (a ∷ rest) (λ k e l. subst (λ (b : SignedArc). All P (points_of arcs b)) (same 0 a (omega arith) ∙ sym (same k e l)) (none_before arcs d table least a there start)) in
        subst (λ (s : GridPoint). All (λ p. is_before p s ≡ false) path) (sym first) (all_path path closed r.first r.there P (subst (All P) is all))
