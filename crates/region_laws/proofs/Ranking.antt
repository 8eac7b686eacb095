-- Numbers sorted by rank are in order of rank.
use Rattle.std.proofs.Common.{◌≡◌, ◌⊎◌, inl, inr, refl, subst, arith, ℕ, zero, suc, ◌+◌, ◌<◌, Bool, true, false, cond, ℤ, List, [], ◌∷◌, Contains}
use Rattle.std.specs.List.{range_with_len}
use Rattle.region_laws.proofs.MosaicTold.{from_start}
use Rattle.lists.specs.Lists.{insert_stable, sort_stable}
use Rattle.lists.proofs.Ascending.{IsAscending}
use Rattle.lists.proofs.Members.{Contains-cases, Contains-head, Contains-later, Contains-nil}
use Rattle.grid_base.specs.declared.kinds.OverlapRule.{OverlapRule}
use Rattle.region_ops.specs.Cleaned.{ranks_before}
use Rattle.region_ops.proofs.Ranks.{not_before_through, not_both_before, one_before}

module _ (rule : OverlapRule) (area : ℕ → ℤ) where
  abbrev before : ℕ → ℕ → Bool
  before m n = ranks_before rule m (area m) n (area n)

  insert-Contains : (x : ℕ) (ys : List ℕ) (z : ℕ) → Contains (insert_stable before x ys) z → (x ≡ z) ⊎ Contains ys z
  insert-Contains x [] z c = Contains-cases x [] z c
  insert-Contains x (y ∷ ys) z c = go (before y x) c (insert-Contains x ys z)
    where
      go : (b : Bool) → Contains (cond b (y ∷ insert_stable before x ys) (x ∷ y ∷ ys)) z → (Contains (insert_stable before x ys) z → (x ≡ z) ⊎ Contains ys z) → (x ≡ z) ⊎ Contains (y ∷ ys) z
      go true c more = elim (Contains-cases y (insert_stable before x ys) z c) [
        | inl g ↦ inr (0, omega arith, g)
        | inr d ↦ elim (more d) [ inl g ↦ inl g | inr h ↦ inr (Contains-later y ys z h) ]
      ]
      go false c more = Contains-cases x (y ∷ ys) z c

  Contains-insert : (x : ℕ) (ys : List ℕ) (z : ℕ) → (x ≡ z) ⊎ Contains ys z → Contains (insert_stable before x ys) z
  Contains-insert x [] z (inl e) = (0, omega arith, e)
  Contains-insert x [] z (inr c) = Contains-nil z c
  Contains-insert x (y ∷ ys) z c = go (before y x) c (Contains-insert x ys z)
    where
      go : (b : Bool) → (x ≡ z) ⊎ Contains (y ∷ ys) z → ((x ≡ z) ⊎ Contains ys z → Contains (insert_stable before x ys) z) → Contains (cond b (y ∷ insert_stable before x ys) (x ∷ y ∷ ys)) z
      go true (inl g) more = Contains-later y (insert_stable before x ys) z (more (inl g))
      go true (inr h) more = elim (Contains-cases y ys z h) [
        | inl g ↦ (0, omega arith, g)
        | inr d ↦ Contains-later y (insert_stable before x ys) z (more (inr d))
      ]
      go false (inl g) more = (0, omega arith, g)
      go false (inr h) more = Contains-later x (y ∷ ys) z h

  pub sort-Contains : (xs : List ℕ) (z : ℕ) → Contains (sort_stable before xs) z → Contains xs z
  sort-Contains [] z c = c
  sort-Contains (x ∷ xs) z c = elim (insert-Contains x (sort_stable before xs) z c) [
    | inl e ↦ (0, omega arith, e)
    | inr d ↦ Contains-later x xs z (sort-Contains xs z d)
  ]

  pub Contains-sort : (xs : List ℕ) (z : ℕ) → Contains xs z → Contains (sort_stable before xs) z
  Contains-sort [] z c = c
  Contains-sort (x ∷ xs) z c = Contains-insert x (sort_stable before xs) z (elim (Contains-cases x xs z c) [ inl e ↦ inl e | inr d ↦ inr (Contains-sort xs z d) ])

  -- of two numbers one ranks before the other
  next_before : (x y : ℕ) → before y x ≡ false → x < y → before x y ≡ true
  next_before x y e l = one_before rule y (area y) x (area x) e (λ same. omega arith)

  before_both : (x y z : ℕ) → before x y ≡ true → before y z ≡ true → x < z → before x z ≡ true
  before_both x y z e f l = next_before x z (not_before_through rule z (area z) y (area y) x (area x) (not_both_before rule y (area y) z (area z) f) (not_both_before rule x (area x) y (area y) e)) l

  insert-IsAscending : (x : ℕ) (ys : List ℕ) → IsAscending before ys → ((y : ℕ) → Contains ys y → x < y) → IsAscending before (insert_stable before x ys)
  insert-IsAscending x [] h l = ((λ y c. Contains-nil y c), tt)
  insert-IsAscending x (y ∷ ys) h l = go (before y x) refl (insert-IsAscending x ys h.1 (λ z c. l z (Contains-later y ys z c)))
    where
      go : (b : Bool) → before y x ≡ b → IsAscending before (insert_stable before x ys) → IsAscending before (cond b (y ∷ insert_stable before x ys) (x ∷ y ∷ ys))
      go true e more = (
        (λ z c. elim (insert-Contains x ys z c) [ inl g ↦ subst (λ (w : ℕ). before y w ≡ true) g e | inr d ↦ h.0 z d ]),
        more,
      )
      go false e more =
          let next : before x y ≡ true = next_before x y e (l y (Contains-head y ys)) in (
            (λ z c. elim (Contains-cases y ys z c) [ inl g ↦ subst (λ (w : ℕ). before x w ≡ true) g next | inr d ↦ before_both x y z next (h.0 z d) (l z (Contains-later y ys z d)) ]),
            h,
          )

  pub ranked : (a n : ℕ) → IsAscending before (sort_stable before (range_with_len a n))
  ranked a zero = tt
  ranked a (suc n) =
      insert-IsAscending a (sort_stable before (range_with_len (a + 1) n)) (ranked (a + 1) n)
      (λ y c. let h = from_start (a + 1) n y (sort-Contains (range_with_len (a + 1) n) y c) in omega (arith, h))
