-- The border between the places that a test takes and those that it leaves is an even list.
use Rattle.std.proofs.Common.{◌≡◌, refl, sym, ap, ◌∙◌, Bool, true, false, ◌&&◌, List, [], ◌∷◌, ◌++◌}
use Rattle.std.specs.Prelude.{All, Contains}
use Rattle.std.proofs.lemmas.List.Elements.{All-head, All-tail}
use Rattle.lists.specs.Lists.{last_of}
use Rattle.plane_parity.proofs.Cut.{xor-false, xor-self}
use Rattle.plane_parity.proofs.Telescope.{xor_assoc, xor_comm, odd_count-append, odd_count-ends}
use Rattle.plane_parity.proofs.Boundary.{filter_count}
use Rattle.plane_model.specs.Points.{GridPoint, Segment, same_point}
use Rattle.plane_model.specs.Parity.{xor, odd_count}
use Rattle.plane_model.specs.EvenList.{IsEven}
use Rattle.plane_model.specs.Rotation.{Dart, tail, IsNext}
use Rattle.plane_faces.specs.Places.{Consecutive, Place, left_of, left_side, right_side, border}
use Rattle.plane_faces.specs.Around.{forward_dart, backward_dart, opposite, darts_at, IsRotation}
use Rattle.plane_faces.proofs.Lists.{odd_count-permutation}
use Rattle.plane_faces.proofs.Around.{if_there, last-All, rotation-here, rotation-consecutive, rotation-round}

module _ (f : Place → Bool) where
  -- the two sides of a dart differ
  abbrev differs : Dart → Bool
  differs d = xor (f (left_of d)) (f (left_of (opposite d)))

  abbrev pub differs_link : Segment → Bool
  differs_link l = xor (f (left_side l)) (f (right_side l))

  module _ (S : List Segment) (sector : (d e : Dart) → Contains S d.link → Contains S e.link → IsNext S d e → f (left_of d) ≡ f (left_of (opposite e))) (p : GridPoint) where
    abbrev There : Dart → Type 0
    There d = Contains S d.link × (tail d ≡ p)

    -- once round, from the right of the first to the left of the last
    turns : (d : Dart) (ds : List Dart) → Consecutive (IsNext S) d ds → All There (d ∷ ds) → odd_count differs (d ∷ ds) ≡ xor (f (left_of (opposite d))) (f (left_of (last_of d ds)))
    turns d [] next here = xor-false (differs d) ∙ xor_comm (f (left_of d)) (f (left_of (opposite d)))
    turns d (e ∷ ds) next here =
        ap (xor (differs d)) (turns e ds next.1 (All-tail There d (e ∷ ds) here))
        ∙ ap (λ (b : Bool). xor (xor b (f (left_of (opposite d)))) (xor (f (left_of (opposite e))) (f (left_of (last_of e ds)))))
        (sector d e (All-head There d (e ∷ ds) here).0 (All-head There e ds (All-tail There d (e ∷ ds) here)).0 next.0)
        ∙ cancel (f (left_of (opposite e))) (f (left_of (opposite d))) (f (left_of (last_of e ds)))
      where
        cancel : (a b c : Bool) → xor (xor a b) (xor a c) ≡ xor b c
        cancel false b c = refl
        cancel true true true = refl
        cancel true true false = refl
        cancel true false true = refl
        cancel true false false = refl

    round : (ds : List Dart) → IsRotation S p ds → odd_count differs ds ≡ false
    round [] r = refl
    round (d ∷ ds) r =
        turns d ds (rotation-consecutive S p d ds r) (rotation-here S p (d ∷ ds) r)
        ∙ ap (xor (f (left_of (opposite d)))) (sector (last_of d ds) d (last-All There d ds (rotation-here S p (d ∷ ds) r)).0 (All-head There d ds (rotation-here S p (d ∷ ds) r)).0 (rotation-round S p d ds r))
        ∙ xor-self (f (left_of (opposite d)))

  -- the darts at a vertex that differ, counted by links
  by_links : (p : GridPoint) (xs : List Segment) → odd_count differs (darts_at p xs) ≡ odd_count (λ l. differs_link l && xor (same_point p l.start) (same_point p l.stop)) xs
  by_links p [] = refl
  by_links p (l ∷ xs) =
      odd_count-append differs (if_there (same_point p l.start) (forward_dart l)) (if_there (same_point p l.stop) (backward_dart l) ++ darts_at p xs)
      ∙ ap (xor (odd_count differs (if_there (same_point p l.start) (forward_dart l)))) (odd_count-append differs (if_there (same_point p l.stop) (backward_dart l)) (darts_at p xs))
      ∙ ap (λ (b : Bool). xor (odd_count differs (if_there (same_point p l.start) (forward_dart l))) (xor (odd_count differs (if_there (same_point p l.stop) (backward_dart l))) b)) (by_links p xs)
      ∙ table (same_point p l.start) (same_point p l.stop) (f (left_side l)) (f (right_side l)) (odd_count (λ k. differs_link k && xor (same_point p k.start) (same_point p k.stop)) xs)
    where
      table : (s t a b n : Bool) → xor (odd_count differs (if_there s (forward_dart l))) (xor (odd_count differs (if_there t (backward_dart l))) n) ≡ xor (xor (f (left_side l)) (f (right_side l)) && xor s t) n
      table s t a b n = sym (xor_assoc (odd_count differs (if_there s (forward_dart l))) (odd_count differs (if_there t (backward_dart l))) n) ∙ ap (λ (x : Bool). xor x n) (both s t)
        where
          one_link : (a b : Bool) → xor (xor b a) false ≡ (xor a b && true)
          one_link true true = refl
          one_link true false = refl
          one_link false true = refl
          one_link false false = refl

          none : (a : Bool) → false ≡ (a && false)
          none true = refl
          none false = refl

          twice : (a b : Bool) → xor (xor (xor a b) false) (xor (xor b a) false) ≡ (xor a b && false)
          twice true true = refl
          twice true false = refl
          twice false true = refl
          twice false false = refl

          once : (a b : Bool) → xor (xor (xor a b) false) false ≡ (xor a b && true)
          once true true = refl
          once true false = refl
          once false true = refl
          once false false = refl

          both : (s t : Bool) → xor (odd_count differs (if_there s (forward_dart l))) (odd_count differs (if_there t (backward_dart l))) ≡ (xor (f (left_side l)) (f (right_side l)) && xor s t)
          both true true = twice (f (left_side l)) (f (right_side l))
          both true false = once (f (left_side l)) (f (right_side l))
          both false true = one_link (f (left_side l)) (f (right_side l))
          both false false = none (xor (f (left_side l)) (f (right_side l)))

pub border_even : (S : List Segment) → ((p : GridPoint) → (ds : List Dart) × IsRotation S p ds) → (f : Place → Bool)
    → ((d e : Dart) → Contains S d.link → Contains S e.link → IsNext S d e → f (left_of d) ≡ f (left_of (opposite e))) → IsEven (border f S)
border_even S rotations f sector p =
    sym (odd_count-ends (same_point p) (border f S))
    ∙ filter_count (differs_link f) (λ l. xor (same_point p l.start) (same_point p l.stop)) S
    ∙ sym (by_links f p S)
    ∙ odd_count-permutation (differs f) (darts_at p S) (rotations p).0 (rotations p).1.all
    ∙ round f S sector p (rotations p).0 (rotations p).1
