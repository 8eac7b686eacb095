-- The test of an order whose ties are equal.
use Rattle.std.proofs.Common.{◌≡◌, refl, sym, ap, ◌∙◌, true≢false, true, false}
use Rattle.std.specs.Ordering.{is_lt, is_eq, ordering_reverse}
use Rattle.std.specs.declared.cmp.Ordering.{Ordering}
use Rattle.std.specs.declared.cmp.Ordering.TheVariants.{Less, Equal, Greater}
use Rattle.std.specs.Cmp.{IsTotalOrder}
use Rattle.std.proofs.lemmas.Cmp.{tied_itself}
use Rattle.lists.proofs.Ascending.{IsStrictOrder}

pub is_less : (o : Ordering) → is_lt o ≡ true → o ≡ Less
is_less Less e = refl
is_less Equal e = absurd (true≢false (sym e))
is_less Greater e = absurd (true≢false (sym e))

neither : (o p : Ordering) → o ≡ ordering_reverse p → is_lt o ≡ false → is_lt p ≡ false → is_eq o ≡ true
neither o Less r e f = absurd (true≢false f)
neither o Equal r e f = ap is_eq r
neither o Greater r e f = absurd (true≢false (sym (ap is_lt r) ∙ e))

pub strict_order : {X : Type 0} (cmp : X → X → Ordering) → IsTotalOrder cmp → ((x y : X) → is_eq (cmp x y) ≡ true → x ≡ y) → IsStrictOrder (λ (x y : X). is_lt (cmp x y))
strict_order cmp total same = record {
  trans = λ x y z e f. ap is_lt (total.trans x y z (is_less (cmp x y) e) (is_less (cmp y z) f));
  total = λ x y e f. same x y (neither (cmp x y) (cmp y x) (total.antisymm x y) e f);
  irreflexive = λ x e. true≢false (sym (sym (ap is_lt (tied_itself total x)) ∙ e));
}
