-- The chain back along a segment is its chain turned round.
use Rattle.std.proofs.Common.{◌≡◌, inl, inr, refl, sym, ap, ◌∙◌, subst, arith, ℕ, zero, suc, min, true, List, [], ◌∷◌, ◌++◌, reverse, filter, Contains, ℤ, pos, negsuc, neg_ℤ, ◌-ℤ◌, ◌+ℤ◌, ◌*ℤ◌}
use Rattle.std.specs.Int.{int_signum}
use Rattle.std.proofs.lemmas.List.{reverse-append}
use Rattle.std.proofs.lemmas.List.Elements.{Contains-append_cases}
use Rattle.std.proofs.lemmas.List.Sorted.{IsPermutation-sym, IsPermutation-reverse, Contains-permutation}
use Rattle.lists.proofs.Members.{Contains-head, Contains-later, Contains-nil, Contains-cases, Contains-filter, filter-Contains}
use Rattle.lists.proofs.Ascending.{IsAscending, one_ascending, ascending-IsAscending, ascending-Contains, Contains-ascending}
use Rattle.plane_algebra.proofs.Ring.{ring, ◌⊞◌, ◌⊠◌, ⊖◌, ◌≐◌}
use Rattle.plane_algebra.proofs.Order.{order}
use Rattle.plane_model.specs.Points.{GridPoint, Segment, Path, reversed}
use Rattle.plane_model.specs.Pixel.{Meets, meets}
use Rattle.plane_model.specs.Hot.{chain_among, is_passed_before, order_key}
use Rattle.plane_snapping.proofs.Keys.{keys_agree}
use Rattle.plane_snapping.proofs.MeetsComputed.{meets_is_computed}
use Rattle.plane_snapping.proofs.Passing.{passed-IsStrictOrder}
use Rattle.hot_pixels.proofs.EdgeLemmas.{meets_along, meets_back}

-- ---- keys back along a segment

sign_of_opposite : (e : ℤ) → int_signum (neg_ℤ e) ≡ neg_ℤ (int_signum e)
sign_of_opposite (pos zero) = refl
sign_of_opposite (pos (suc n)) = let e : min (suc n) 1 ≡ 1 = omega arith in sym (ap (λ (m : ℕ). neg_ℤ (pos m)) e)
sign_of_opposite (negsuc n) = let e : min (suc n) 1 ≡ 1 = omega arith in ap pos e

back_sign : (p q : ℤ) → int_signum (p -ℤ q) ≡ neg_ℤ (int_signum (q -ℤ p))
back_sign p q = let e : p -ℤ q ≡ neg_ℤ (q -ℤ p) = omega order in ap int_signum e ∙ sign_of_opposite (q -ℤ p)

back_key : (s : Segment) (g : GridPoint) → order_key (reversed s) g ≡ neg_ℤ (order_key s g)
back_key s g =
    (λ i. back_sign s.start.x s.stop.x i *ℤ g.x +ℤ back_sign s.start.y s.stop.y i *ℤ g.y)
    ∙ ring 4 (λ a b x y. (⊖ a) ⊠ x ⊞ (⊖ b) ⊠ y ≐ ⊖ (a ⊠ x ⊞ b ⊠ y)) tt (int_signum (s.stop.x -ℤ s.start.x)) (int_signum (s.stop.y -ℤ s.start.y)) g.x g.y

-- ---- chains

module _ (points : List GridPoint) (s : Segment) where
  abbrev r : Segment
  r = reversed s

  met_back : (g : GridPoint) → Meets s g → Meets r g
  met_back g m = (meets_is_computed r g).0 (meets_along s r g (inr refl) ((meets_is_computed s g).1 m))

  turned : (g h : GridPoint) → Meets s g → Meets s h → is_passed_before s g h ≡ true → is_passed_before r h g ≡ true
  turned g h m n e =
      let l = (keys_agree s g h m n).0 e in
      let a = back_key s g in
      let b = back_key s h in
      (keys_agree r h g (met_back h n) (met_back g m)).1 (omega order)

  put_last : (xs : Path) (x : GridPoint) → IsAscending (is_passed_before r) xs → ((y : GridPoint) → Contains xs y → is_passed_before r y x ≡ true) → IsAscending (is_passed_before r) (xs ++ x ∷ [])
  put_last [] x h k = ((λ y c. Contains-nil y c), tt)
  put_last (z ∷ zs) x h k = (
    (λ y c. elim (Contains-append_cases zs (x ∷ []) y c) [
      | inl d ↦ h.0 y d
      | inr d ↦ elim (Contains-cases x [] y d) [ inl e ↦ subst (λ (w : GridPoint). is_passed_before r z w ≡ true) e (k z (Contains-head z zs)) | inr n ↦ Contains-nil y n ]
    ]),
    put_last zs x h.1 (λ y c. k y (Contains-later z zs y c)),
  )

  from_reverse : (xs : Path) (y : GridPoint) → Contains (reverse xs) y → Contains xs y
  from_reverse xs y c = Contains-permutation (reverse xs) xs y (IsPermutation-sym xs (reverse xs) (IsPermutation-reverse xs)) c

  turned_round : (xs : Path) → IsAscending (is_passed_before s) xs → ((g : GridPoint) → Contains xs g → Meets s g) → IsAscending (is_passed_before r) (reverse xs)
  turned_round [] up met = tt
  turned_round (x ∷ xs) up met =
      subst (IsAscending (is_passed_before r)) (sym (reverse-append (x ∷ []) xs))
      (put_last (reverse xs) x (turned_round xs up.1 (λ g c. met g (Contains-later x xs g c)))
      (λ y c. let d = from_reverse xs y c in turned x y (met x (Contains-head x xs)) (met y (Contains-later x xs y d)) (up.0 y d)))

  pub back_chain : chain_among points (reversed s) ≡ reverse (chain_among points s)
  back_chain =
      let strict = passed-IsStrictOrder s in
      let back = passed-IsStrictOrder r in
      let chain = chain_among points s in
      let met : List GridPoint = filter (meets s) points in
      let met_r : List GridPoint = filter (meets r) points in
      one_ascending (is_passed_before r) back (chain_among points r) (reverse chain)
      (ascending-IsAscending (is_passed_before r) back met_r)
      (turned_round chain (ascending-IsAscending (is_passed_before s) strict met) (λ g c. (meets_is_computed s g).0 (filter-Contains (meets s) points g (ascending-Contains (is_passed_before s) strict met g c)).1))
      (λ g c.
      let m = filter-Contains (meets r) points g (ascending-Contains (is_passed_before r) back met_r g c) in
      Contains-permutation chain (reverse chain) g (IsPermutation-reverse chain) (Contains-ascending (is_passed_before s) strict met g (Contains-filter (meets s) points g m.0 (meets_back s r g (inr refl) m.1))))
      (λ g c.
      let m = filter-Contains (meets s) points g (ascending-Contains (is_passed_before s) strict met g (from_reverse chain g c)) in
      Contains-ascending (is_passed_before r) back met_r g (Contains-filter (meets r) points g m.0 (meets_along s r g (inr refl) m.1)))
