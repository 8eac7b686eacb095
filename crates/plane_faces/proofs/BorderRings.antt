-- The darts of a border, each with the inside on its left, are the darts of rings.
use Rattle.std.proofs.Common.{◌≡◌, ℕ, suc, ◌+◌, refl, sym, ap, subst, ◌∙◌, arith, Bool, true, false, not, cond, ◌&&◌, List, [], ◌∷◌, ◌++◌, map}
use Rattle.std.specs.Prelude.{All, Contains}
use Rattle.std.specs.List.Sorted.{IsPermutation}
use Rattle.std.proofs.lemmas.List.{map-append}
use Rattle.std.proofs.lemmas.List.Elements.{All-head, All-tail, All-map, All-weaker, All-contains, All-contains_itself}
use Rattle.std.proofs.lemmas.List.Sorted.{IsPermutation-sym, IsPermutation-map, All-permutation}
use Rattle.lists.specs.Lists.{last_of}
use Rattle.plane_model.specs.Points.{GridPoint, Segment, same_point, Path}
use Rattle.plane_model.specs.Parity.{xor}
use Rattle.plane_model.specs.Arrangement.{IsBefore, IsArrangement}
use Rattle.plane_model.specs.Rotation.{Dart, tail, head, IsNext}
use Rattle.plane_faces.proofs.Runs.{between, links_from, links_of_runs, darts_from, darts_of_runs}
use Rattle.plane_faces.specs.Rings.{links_of_path, IsRing, darts_of_path}
use Rattle.plane_faces.specs.Places.{Consecutive, Place, left_of, left_side, right_side, border, border_darts}
use Rattle.plane_faces.specs.Around.{forward_dart, backward_dart, opposite, darts_at, IsRotation}
use Rattle.plane_faces.proofs.Lists.{count, count_append, count-permutation}
use Rattle.plane_faces.proofs.Around.{if_there, last-All, rotation-here, rotation-consecutive, rotation-round}
use Rattle.plane_faces.proofs.Connected.{HasRotations}
use Rattle.plane_faces.proofs.EvenRings.{IsBalanced, rings_of_balanced}
use Rattle.plane_faces.proofs.Parts.{passes_filter, border_in}

abbrev one : Bool → ℕ
one b = cond b 1 0

-- the darts of a link that leave, or arrive at, a point: by what f says left and right of it, and which ends are there
leaving_table : (u v a b : Bool) (c n : ℕ) → c ≡ n → cond (xor u v) (cond (cond u a b) (suc c) c) c ≡ one (a && (u && not v)) + (one (b && (v && not u)) + n)
leaving_table true true true true c n e = omega arith
leaving_table true true true false c n e = omega arith
leaving_table true true false true c n e = omega arith
leaving_table true true false false c n e = omega arith
leaving_table true false true true c n e = omega arith
leaving_table true false true false c n e = omega arith
leaving_table true false false true c n e = omega arith
leaving_table true false false false c n e = omega arith
leaving_table false true true true c n e = omega arith
leaving_table false true true false c n e = omega arith
leaving_table false true false true c n e = omega arith
leaving_table false true false false c n e = omega arith
leaving_table false false true true c n e = omega arith
leaving_table false false true false c n e = omega arith
leaving_table false false false true c n e = omega arith
leaving_table false false false false c n e = omega arith

arriving_table : (u v a b : Bool) (c n : ℕ) → c ≡ n → cond (xor u v) (cond (cond u b a) (suc c) c) c ≡ one (a && (not u && v)) + (one (b && (not v && u)) + n)
arriving_table true true true true c n e = omega arith
arriving_table true true true false c n e = omega arith
arriving_table true true false true c n e = omega arith
arriving_table true true false false c n e = omega arith
arriving_table true false true true c n e = omega arith
arriving_table true false true false c n e = omega arith
arriving_table true false false true c n e = omega arith
arriving_table true false false false c n e = omega arith
arriving_table false true true true c n e = omega arith
arriving_table false true true false c n e = omega arith
arriving_table false true false true c n e = omega arith
arriving_table false true false false c n e = omega arith
arriving_table false false true true c n e = omega arith
arriving_table false false true false c n e = omega arith
arriving_table false false false true c n e = omega arith
arriving_table false false false false c n e = omega arith

module _ (f : Place → Bool) where
  -- f begins at the dart, counterclockwise, or ends there
  abbrev begins : Dart → Bool
  begins d = f (left_of d) && not (f (left_of (opposite d)))

  abbrev stops : Dart → Bool
  stops d = not (f (left_of d)) && f (left_of (opposite d))

  abbrev directed : Segment → Dart
  directed l = record { link = l; forward = f (left_side l) }

  module _ (S : List Segment) (sector : (d e : Dart) → Contains S d.link → Contains S e.link → IsNext S d e → f (left_of d) ≡ f (left_of (opposite e))) (p : GridPoint) where
    abbrev There : Dart → Type 0
    There d = Contains S d.link × (tail d ≡ p)

    -- at one dart
    change : (u v : Bool) (m n : ℕ) → cond (u && not v) (suc m) m + one v + n ≡ cond (not u && v) (suc n) n + one u + m
    change true true m n = omega arith
    change true false m n = omega arith
    change false true m n = omega arith
    change false false m n = omega arith

    turns : (d : Dart) (ds : List Dart) → Consecutive (IsNext S) d ds → All There (d ∷ ds) → count begins (d ∷ ds) + one (f (left_of (opposite d))) ≡ count stops (d ∷ ds) + one (f (left_of (last_of d ds)))
    unfolding count
    turns d [] next here = let h = change (f (left_of d)) (f (left_of (opposite d))) 0 0 in omega (arith, h)
    turns d (e ∷ ds) next here =
        let h = change (f (left_of d)) (f (left_of (opposite d))) (count begins (e ∷ ds)) (count stops (e ∷ ds)) in
        let i = turns e ds next.1 (All-tail There d (e ∷ ds) here) in
        let j : one (f (left_of d)) ≡ one (f (left_of (opposite e))) = ap one (sector d e (All-head There d (e ∷ ds) here).0 (All-head There e ds (All-tail There d (e ∷ ds) here)).0 next.0) in
        omega (arith, h, i, j)

    round : (ds : List Dart) → IsRotation S p ds → count begins ds ≡ count stops ds
    unfolding count
    round [] r = refl
    round (d ∷ ds) r =
        let i = turns d ds (rotation-consecutive S p d ds r) (rotation-here S p (d ∷ ds) r) in
        let j : one (f (left_of (last_of d ds))) ≡ one (f (left_of (opposite d))) = ap one (sector (last_of d ds) d (last-All There d ds (rotation-here S p (d ∷ ds) r)).0 (All-head There d ds (rotation-here S p (d ∷ ds) r)).0 (rotation-round S p d ds r)) in
        omega (arith, i, j)

  if_there_count : (test : Dart → Bool) (s : Bool) (d : Dart) → count test (if_there s d) ≡ one (s && test d)
  unfolding count
  if_there_count test true d = go (test d)
    where
      go : (b : Bool) → cond b 1 0 ≡ one b
      go b = refl
  if_there_count test false d = refl

  directed_count : (test : Dart → Bool) (l : Segment) (b : Bool) (xs : List Segment) → count test (map directed (cond b (l ∷ xs) xs)) ≡ cond b (cond (test (directed l)) (suc (count test (map directed xs))) (count test (map directed xs))) (count test (map directed xs))
  unfolding count
  directed_count test l true xs = refl
  directed_count test l false xs = refl

  module _ (p : GridPoint) where
    abbrev leaves : Dart → Bool
    leaves d = same_point p (tail d)

    abbrev arrives : Dart → Bool
    arrives d = same_point p (head d)

    split : (test : Dart → Bool) (l : Segment) (xs : List Segment) → count test (darts_at p (l ∷ xs)) ≡ one (same_point p l.start && test (forward_dart l)) + (one (same_point p l.stop && test (backward_dart l)) + count test (darts_at p xs))
    split test l xs =
        let a = count_append test (if_there (same_point p l.start) (forward_dart l)) (if_there (same_point p l.stop) (backward_dart l) ++ darts_at p xs) in
        let b = count_append test (if_there (same_point p l.stop) (backward_dart l)) (darts_at p xs) in
        let c = if_there_count test (same_point p l.start) (forward_dart l) in
        let d = if_there_count test (same_point p l.stop) (backward_dart l) in
        omega (arith, a, b, c, d)

    by_leaving : (xs : List Segment) → count leaves (border_darts f xs) ≡ count begins (darts_at p xs)
    unfolding count
    by_leaving [] = refl
    by_leaving (l ∷ xs) =
        directed_count leaves l (xor (f (left_side l)) (f (right_side l))) (border f xs)
        ∙ ap (λ (b : Bool). cond (xor (f (left_side l)) (f (right_side l))) (cond b (suc (count leaves (border_darts f xs))) (count leaves (border_darts f xs))) (count leaves (border_darts f xs))) (which (f (left_side l)))
        ∙ leaving_table (f (left_side l)) (f (right_side l)) (same_point p l.start) (same_point p l.stop) (count leaves (border_darts f xs)) (count begins (darts_at p xs)) (by_leaving xs)
        ∙ sym (split begins l xs)
      where
        which : (u : Bool) → same_point p (cond u l.start l.stop) ≡ cond u (same_point p l.start) (same_point p l.stop)
        which true = refl
        which false = refl

    by_arriving : (xs : List Segment) → count arrives (border_darts f xs) ≡ count stops (darts_at p xs)
    unfolding count
    by_arriving [] = refl
    by_arriving (l ∷ xs) =
        directed_count arrives l (xor (f (left_side l)) (f (right_side l))) (border f xs)
        ∙ ap (λ (b : Bool). cond (xor (f (left_side l)) (f (right_side l))) (cond b (suc (count arrives (border_darts f xs))) (count arrives (border_darts f xs))) (count arrives (border_darts f xs))) (which (f (left_side l)))
        ∙ arriving_table (f (left_side l)) (f (right_side l)) (same_point p l.start) (same_point p l.stop) (count arrives (border_darts f xs)) (count stops (darts_at p xs)) (by_arriving xs)
        ∙ sym (split stops l xs)
      where
        which : (u : Bool) → same_point p (cond u l.stop l.start) ≡ cond u (same_point p l.stop) (same_point p l.start)
        which true = refl
        which false = refl

pub border_balanced : (S : List Segment) → HasRotations S → (f : Place → Bool) → ((d e : Dart) → Contains S d.link → Contains S e.link → IsNext S d e → f (left_of d) ≡ f (left_of (opposite e))) → IsBalanced (border_darts f S)
border_balanced S rotations f sector p =
    by_leaving f p S
    ∙ count-permutation (begins f) (darts_at p S) (rotations p).0 (rotations p).1.all
    ∙ round f S sector p (rotations p).0 (rotations p).1
    ∙ sym (count-permutation (stops f) (darts_at p S) (rotations p).0 (rotations p).1.all)
    ∙ sym (by_arriving f p S)

-- ---- links of darts

abbrev pub link_of : Dart → Segment
link_of d = d.link

pub links_of_border : (f : Place → Bool) (xs : List Segment) → map link_of (map (λ l. record { link = l; forward = f (left_side l) }) xs) ≡ xs
links_of_border f [] = refl
links_of_border f (x ∷ xs) = ap (λ (ls : List Segment). x ∷ ls) (links_of_border f xs)

pub links_of_darts : (runs : List Path) → map link_of (darts_of_runs runs) ≡ links_of_runs runs
links_of_darts [] = refl
links_of_darts (run ∷ runs) = map-append link_of (darts_of_path run) (darts_of_runs runs) ∙ ap (λ (ls : List Segment). ls ++ map link_of (darts_of_runs runs)) (one_run run) ∙ ap (λ (ls : List Segment). links_of_path run ++ ls) (links_of_darts runs)
  where
    from : (p : GridPoint) (run : List GridPoint) → map link_of (darts_from p run) ≡ links_from p run
    from p [] = refl
    from p (q ∷ run) = ap (λ (ls : List Segment). between p q ∷ ls) (from q run)

    one_run : (run : List GridPoint) → map link_of (darts_of_path run) ≡ links_of_path run
    one_run [] = refl
    one_run (p ∷ run) = from p run

-- f holds on the left of each
pub left_held : (f : Place → Bool) (S : List Segment) → All (λ d. f (left_of d) ≡ true) (border_darts f S)
left_held f S = All-map (λ d. f (left_of d) ≡ true) (λ l. record { link = l; forward = f (left_side l) }) (border f S)
    (All-weaker (Contains (border f S)) (λ l. f (left_of (record { link = l; forward = f (left_side l) })) ≡ true)
    (λ l c. go l (f (left_side l)) refl (passes_filter (λ k. xor (f (left_side k)) (f (right_side k))) S l c)) (border f S) (All-contains_itself (border f S)))
  where
    go : (l : Segment) (b : Bool) → f (left_side l) ≡ b → xor (f (left_side l)) (f (right_side l)) ≡ true → f (left_of (record { link = l; forward = b })) ≡ true
    go l true e h = e
    go l false e h = subst (λ (x : Bool). xor x (f (right_side l)) ≡ true) e h

pub rings_of_border : (S : List Segment) → IsArrangement S → HasRotations S → (f : Place → Bool) → ((d e : Dart) → Contains S d.link → Contains S e.link → IsNext S d e → f (left_of d) ≡ f (left_of (opposite e)))
    → (runs : List Path) × All IsRing runs × IsPermutation (links_of_runs runs) (border f S) × All (λ d. f (left_of d) ≡ true) (darts_of_runs runs) × IsPermutation (darts_of_runs runs) (border_darts f S)
rings_of_border S arr rotations f sector =
    let r = rings_of_balanced (border_darts f S) ordered (border_balanced S rotations f sector) in (
      r.0,
      r.1,
      subst (λ (ls : List Segment). IsPermutation ls (border f S)) (links_of_darts r.0)
          (subst (IsPermutation (map link_of (darts_of_runs r.0))) (links_of_border f (border f S)) (IsPermutation-map link_of (darts_of_runs r.0) (border_darts f S) r.2)),
      All-permutation (λ d. f (left_of d) ≡ true) (border_darts f S) (darts_of_runs r.0) (IsPermutation-sym (darts_of_runs r.0) (border_darts f S) r.2) (left_held f S),
      r.2,
    )
  where
    ordered : All (λ d. IsBefore d.link.start d.link.stop) (border_darts f S)
    ordered = All-map (λ d. IsBefore d.link.start d.link.stop) (λ l. record { link = l; forward = f (left_side l) }) (border f S)
        (All-weaker (Contains S) (λ l. IsBefore l.start l.stop) (λ l c. All-contains (λ j. IsBefore j.start j.stop) S l arr.ordered c) (border f S) (border_in S f))
