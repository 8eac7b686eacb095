-- Labels of points that see each other, or a link; and regions that parities describe.
use Rattle.std.proofs.Common.{◌≡◌, ℕ, refl, sym, ap, subst, ◌∙◌, arith, Bool, true, false, cond, ◌&&◌, List, map}
use Rattle.std.proofs.Math.IntN.{ℤ, pos}
use Rattle.std.specs.Prelude.{All, Contains, nat_eq, int_lt, int_le, ◌<ℤ◌}
use Rattle.std.proofs.lemmas.Int.{ints}
use Rattle.std.proofs.lemmas.Bool.{eq-eqb, eqb-true}
use Rattle.std.proofs.lemmas.List.Elements.{All-weaker}
use Rattle.plane_parity.proofs.Sector.{first_gap}
use Rattle.plane_parity.proofs.FreeSegment.{same_parity}
use Rattle.plane_parity.proofs.Sight.{sight_from_left, sight_from_right}
use Rattle.plane_parity.proofs.Boundary.{map_same}
use Rattle.plane_model.specs.Points.{RationalPoint, GridPoint, Segment, step_x, turn, at}
use Rattle.plane_model.specs.Arrangement.{IsArrangement, IsFree, IsDistinct}
use Rattle.plane_model.specs.EvenList.{IsEven}
use Rattle.plane_model.specs.Parity.{odd}
use Rattle.plane_model.specs.Sees.{SeesLeft, SeesRight}
use Rattle.plane_faces.specs.Around.{opposite}
use Rattle.plane_faces.specs.Places.{Place, outside, left_of, left_side, right_side, IsBeside, IsPlaceOf, AgreesWherePlacesMeet, border, odd_at, in_region, IsFirst}
use Rattle.plane_faces.specs.Labels.{IsFaceLabelling, among}
use Rattle.plane_faces.proofs.Connected.{HasRotations, parity_agrees, parity_at_place, border_within, border_is_even, border_at}
use Rattle.plane_faces.proofs.FaceLaws.{among_agrees, place_beside}

module _ (S : List Segment) (arr : IsArrangement S) (distinct : IsDistinct S) (rotations : HasRotations S) (label : Place → ℕ) (agrees : AgreesWherePlacesMeet S label) where
  -- no even list tells the places a and b apart
  abbrev pub Together : Place → Place → Type 0
  Together a b = (L : List Segment) → All (Contains S) L → IsEven L → odd_at L a ≡ odd_at L b

  is : ℕ → ℕ → Bool
  is n k = nat_eq k n

  border_test : (n : ℕ) → nat_eq (label outside) n ≡ false → (a b : Place) → IsBeside S a → IsBeside S b → Together a b → nat_eq (label a) n ≡ nat_eq (label b) n
  unfolding is
  border_test n none a b ha hb h =
      let p : AgreesWherePlacesMeet S (among label (is n)) = among_agrees S label agrees (is n) in
      sym (border_at S arr distinct rotations (among label (is n)) p none a ha)
      ∙ h (border (among label (is n)) S) (border_within S arr distinct rotations (among label (is n)) p none) (border_is_even S arr distinct rotations (among label (is n)) p none)
      ∙ border_at S arr distinct rotations (among label (is n)) p none b hb

  -- places that no even list tells apart have one label
  pub one_label : (a b : Place) → IsBeside S a → IsBeside S b → Together a b → label a ≡ label b
  one_label a b ha hb h = go (nat_eq (label outside) (label a)) refl (nat_eq (label outside) (label b)) refl
    where
      go : (x : Bool) → nat_eq (label outside) (label a) ≡ x → (y : Bool) → nat_eq (label outside) (label b) ≡ y → label a ≡ label b
      go false e y f = sym (eqb-true (label b) (label a) (sym (border_test (label a) e a b ha hb h) ∙ eq-eqb (label a) (label a) refl))
      go true e false f = eqb-true (label a) (label b) (border_test (label b) f a b ha hb h ∙ eq-eqb (label b) (label b) refl)
      go true e true f = sym (eqb-true (label outside) (label a) e) ∙ eqb-true (label outside) (label b) f

  pub label_along_a_segment : (u v : RationalPoint) → IsFree S u v → (a b : Place) → IsPlaceOf S u a → IsPlaceOf S v b → label a ≡ label b
  label_along_a_segment u v free a b ha hb =
      one_label a b (place_beside S u a ha) (place_beside S v b hb)
      (λ L within even. sym (parity_at_place S L arr within even u a ha) ∙ same_parity S L arr within even u v free ∙ parity_at_place S L arr within even v b hb)

  pub label_from_left : (l : Segment) → Contains S l → (z : RationalPoint) → SeesLeft S l z → (a : Place) → IsPlaceOf S z a → label a ≡ label (left_side l)
  label_from_left l cl z sees a ha =
      one_label a (left_side l) (place_beside S z a ha) cl
      (λ L within even. sym (parity_at_place S L arr within even z a ha) ∙ sight_from_left S L arr within even l cl z sees)

  pub label_from_right : (l : Segment) → Contains S l → (z : RationalPoint) → SeesRight S l z → (a : Place) → IsPlaceOf S z a → label a ≡ label (right_side l)
  label_from_right l cl z sees a ha =
      one_label a (right_side l) (place_beside S z a ha) cl
      (λ L within even. sym (parity_at_place S L arr within even z a ha) ∙ sight_from_right S L arr within even l cl z sees)

  -- along the ray from any vertex that a link leaves
  pub label_along_a_ray : (l : Segment) → Contains S l → IsFirst S l → (a : Place) → IsPlaceOf S (at l.start) a → label (right_side l) ≡ label a
  label_along_a_ray l cl first a h =
      one_label (right_side l) a cl (place_beside S (at l.start) a h)
      (λ L within even. first_gap S L arr within even l cl (λ k c s. subst (λ (q : GridPoint). int_lt (pos 0) (turn (at q) (at k.stop) (at l.stop)) ≡ false) s (first k c s)) ∙ parity_at_place S L arr within even (at l.start) a h)

-- ---- the same for a test

one : Bool → ℕ
one b = cond b 1 0

one_tells : (x y : Bool) → one x ≡ one y → x ≡ y
unfolding one
one_tells true true e = refl
one_tells false false e = refl
one_tells true false e = absurd (omega (arith, e))
one_tells false true e = absurd (omega (arith, e))

module _ (S : List Segment) (arr : IsArrangement S) (distinct : IsDistinct S) (rotations : HasRotations S) (f : Place → Bool) (agrees : AgreesWherePlacesMeet S f) where
  number : Place → ℕ
  number a = one (f a)

  numbers_agree : AgreesWherePlacesMeet S number
  unfolding number
  numbers_agree = record {
    sector = λ d e cd ce next. ap one (agrees.sector d e cd ce next);
    ray = λ k ck least fk b hb. ap one (agrees.ray k ck least fk b hb);
  }

  pub test_along_a_ray : (l : Segment) → Contains S l → IsFirst S l → (a : Place) → IsPlaceOf S (at l.start) a → f (right_side l) ≡ f a
  unfolding number
  test_along_a_ray l cl first a h = one_tells (f (right_side l)) (f a) (label_along_a_ray S arr distinct rotations number numbers_agree l cl first a h)

  pub test_from_left : (l : Segment) → Contains S l → (z : RationalPoint) → SeesLeft S l z → (a : Place) → IsPlaceOf S z a → f a ≡ f (left_side l)
  unfolding number
  test_from_left l cl z sees a h = one_tells (f a) (f (left_side l)) (label_from_left S arr distinct rotations number numbers_agree l cl z sees a h)

  pub test_from_right : (l : Segment) → Contains S l → (z : RationalPoint) → SeesRight S l z → (a : Place) → IsPlaceOf S z a → f a ≡ f (right_side l)
  unfolding number
  test_from_right l cl z sees a h = one_tells (f a) (f (right_side l)) (label_from_right S arr distinct rotations number numbers_agree l cl z sees a h)

-- a point left of all vertices is outside
pub far_left : (S : List Segment) (z : RationalPoint) → ((l : Segment) → Contains S l → pos 0 <ℤ step_x z (at l.start)) → IsPlaceOf S z outside
far_left S z left k c = ap (λ (b : Bool). (b && int_lt (pos 0) (step_x z (at k.stop))) && int_lt (pos 0) (turn (at k.start) (at k.stop) z)) (sym (high (step_x z (at k.start)) (left k c)))
  where
    high : (a : ℤ) → pos 0 <ℤ a → false ≡ int_le a (pos 0)
    high a h = omega (arith, ints)

-- ---- regions that parities describe

pub region_agrees : (S : List Segment) → IsArrangement S → (Rs : List (List Segment)) → All (λ R. All (Contains S) R × IsEven R) Rs → (f : List Bool → Bool) → AgreesWherePlacesMeet S (in_region f Rs)
region_agrees S arr Rs even f = record {
  sector = λ d e cd ce next. ap f (map_same (λ R. odd_at R (left_of d)) (λ R. odd_at R (left_of (opposite e))) Rs
      (All-weaker (λ R. All (Contains S) R × IsEven R) (λ R. odd_at R (left_of d) ≡ odd_at R (left_of (opposite e))) (λ R h. (parity_agrees S R arr h.0 h.1).sector d e cd ce next) Rs even));
  ray = λ l cl least first a here. ap f (map_same (λ R. odd_at R (right_side l)) (λ R. odd_at R a) Rs
      (All-weaker (λ R. All (Contains S) R × IsEven R) (λ R. odd_at R (right_side l) ≡ odd_at R a) (λ R h. (parity_agrees S R arr h.0 h.1).ray l cl least first a here) Rs even));
}

-- a region is made of whole faces, and at a point it is what its parities there say
pub region_of_labels : (S : List Segment) → IsArrangement S → (label : Place → ℕ) → IsFaceLabelling S label → (Rs : List (List Segment)) → All (λ R. All (Contains S) R × IsEven R) Rs → (f : List Bool → Bool)
    → (a b : Place) → IsBeside S a → IsBeside S b → label a ≡ label b → in_region f Rs a ≡ in_region f Rs b
region_of_labels S arr label faces Rs even f a b ha hb e = faces.joined a b ha hb e (in_region f Rs) (region_agrees S arr Rs even f)

pub region_at_point : (S : List Segment) → IsArrangement S → (Rs : List (List Segment)) → All (λ R. All (Contains S) R × IsEven R) Rs → (f : List Bool → Bool)
    → (z : RationalPoint) → (a : Place) → IsPlaceOf S z a → f (map (λ R. odd R z) Rs) ≡ in_region f Rs a
region_at_point S arr Rs even f z a h = ap f (map_same (λ R. odd R z) (λ R. odd_at R a) Rs
    (All-weaker (λ R. All (Contains S) R × IsEven R) (λ R. odd R z ≡ odd_at R a) (λ R k. parity_at_place S R arr k.0 k.1 z a h) Rs even))
