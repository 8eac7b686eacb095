-- A point that stands between two neighbours of points in order is none of them.
use Rattle.std.proofs.Common.{◌≡◌, ◌∙◌, inl, inr, refl, ap, subst, arith, ℕ, ◌-◌, ◌<◌, ◌≤◌, true, false, List, length, get_or, Contains, Ordering}
use Rattle.std.specs.List.Sorted.{IsSorted}
use Rattle.std.specs.Ordering.{is_lt, ordering_reverse}
use Rattle.std.specs.declared.cmp.Ordering.TheVariants.{Less, Equal, Greater}
use Rattle.std.proofs.lemmas.Bool.{cases_lt, false_from_ne_true}
use Rattle.std.proofs.lemmas.List.MinMax.{ranks_by}
use Rattle.std.proofs.lemmas.List.Sorted.{sorted_far}
use Rattle.plane_model.specs.Points.{GridPoint, is_before}
use Rattle.plane_model.proofs.PointOrder.{clash, is_before-IsStrictOrder}
use Rattle.grid_base.specs.Order.{point_cmp}
use Rattle.grid_base.proofs.PointSearch.{point_cmp-total, equal_is, less_is}

-- what is not less does not come before
not_before : (p q : GridPoint) → is_lt (point_cmp p q) ≡ false → is_before p q ≡ false
not_before p q e = go (point_cmp p q) refl e
  where
    go : (a : Ordering) → point_cmp p q ≡ a → is_lt a ≡ false → is_before p q ≡ false
    go Less f e = absurd (let g : true ≡ false = e in cc)
    go Equal f e = false_from_ne_true (is_before p q) (λ b. is_before-IsStrictOrder.irreflexive q (subst (λ (r : GridPoint). is_before r q ≡ true) (equal_is p q f) b))
    go Greater f e = false_from_ne_true (is_before p q) (λ b. is_before-IsStrictOrder.irreflexive p (is_before-IsStrictOrder.trans p q p b (less_is q p (point_cmp-total.antisymm q p ∙ ap ordering_reverse f))))

module _ (points : List GridPoint) (up : IsSorted point_cmp points) (p : GridPoint) where
  never_back : (i j : ℕ) → i ≤ j → j < length points → is_before (get_or points j p) (get_or points i p) ≡ false
  never_back i j l m = not_before (get_or points j p) (get_or points i p) (sorted_far (λ (a : GridPoint) (b : GridPoint). is_lt (point_cmp a b)) (ranks_by point_cmp-total (λ (a : GridPoint). a)) points up i j p l m)

  -- where the point before a place comes before p, and the one there comes after it, p is none of them
  pub none_between : (k : ℕ) → k ≤ length points → (0 < k → is_before (get_or points (k - 1) p) p ≡ true) → (k < length points → is_before p (get_or points k p) ≡ true) → Contains points p → ⊥
  none_between k within before after c = elim (cases_lt c.0 k) [
    | inl less ↦ clash (is_before (get_or points (k - 1) p) p) (before (omega arith)) (subst (λ (q : GridPoint). is_before (get_or points (k - 1) p) q ≡ false) c.2 (never_back c.0 (k - 1) (omega arith) (omega arith)))
    | inr more ↦ (let l = c.1 in clash (is_before p (get_or points k p)) (after (omega arith)) (subst (λ (q : GridPoint). is_before q (get_or points k p) ≡ false) c.2 (never_back k c.0 more l)))
  ]
