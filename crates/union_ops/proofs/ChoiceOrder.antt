-- Choices in lexicographic order, none after every number.
use Rattle.std.proofs.Common.{◌≡◌, refl, sym, ap, ◌∙◌, true≢false, ℕ, true, nat_eq, Option, Some, None, is_some, unwrap_or}
use Rattle.std.specs.Bool.{Decides}
use Rattle.std.specs.Option.{option_eq}
use Rattle.std.specs.Ordering.{is_lt, is_eq, eq_by_cmp, ordering_reverse}
use Rattle.std.specs.declared.cmp.Ordering.TheVariants.{Less, Equal}
use Rattle.std.specs.Cmp.{IsTotalOrder, unsigned_Decides, unsigned_ties}
use Rattle.std.specs.Cmp.Lexicographic.{slice_cmp, pointwise_decides, lists_ties}
use Rattle.std.proofs.lemmas.Cmp.{nat_cmp_total, lists_total}
use Rattle.lists.proofs.Ascending.{IsStrictOrder}
use Rattle.face_sets.proofs.Orders.{strict_order}
use Rattle.union_ops.specs.Choices.{Choice, same_choice, number_order, choice_before}

-- ---- numbers, and none after them

numbers_back : (p q : Option ℕ) → number_order p q ≡ ordering_reverse (number_order q p)
numbers_back (Some m) (Some n) = nat_cmp_total.antisymm m n
numbers_back (Some m) None = refl
numbers_back None (Some n) = refl
numbers_back None None = refl

numbers_through : (p q r : Option ℕ) → number_order p q ≡ Less → number_order q r ≡ Less → number_order p r ≡ Less
numbers_through (Some a) (Some b) (Some c) e f = nat_cmp_total.trans a b c e f
numbers_through (Some a) (Some b) None e f = refl
numbers_through (Some a) None (Some c) e f = absurd (true≢false (sym (ap is_lt f)))
numbers_through (Some a) None None e f = refl
numbers_through None (Some b) r e f = absurd (true≢false (sym (ap is_lt e)))
numbers_through None None r e f = absurd (true≢false (sym (ap is_lt e)))

numbers_alike : (p q r : Option ℕ) → number_order p q ≡ Equal → number_order p r ≡ number_order q r
numbers_alike (Some a) (Some b) (Some c) e = nat_cmp_total.congr a b c e
numbers_alike (Some a) (Some b) None e = refl
numbers_alike (Some a) None r e = absurd (true≢false (ap is_lt e))
numbers_alike None (Some b) r e = absurd (true≢false (sym (ap is_eq e)))
numbers_alike None None r e = refl

numbers_total : IsTotalOrder number_order
numbers_total = record { antisymm = numbers_back; trans = numbers_through; congr = numbers_alike }

numbers_tie : (p q : Option ℕ) → option_eq nat_eq p q ≡ eq_by_cmp number_order p q
numbers_tie (Some m) (Some n) = unsigned_ties m n
numbers_tie (Some m) None = refl
numbers_tie None (Some n) = refl
numbers_tie None None = refl

pub numbers_decide : (p q : Option ℕ) → Decides (option_eq nat_eq p q) (p ≡ q)
numbers_decide (Some m) (Some n) = (λ e. ap (λ (k : ℕ). Some k) ((unsigned_Decides m n).0 e), λ e. (unsigned_Decides m n).1 (ap (λ (o : Option ℕ). unwrap_or o 0) e))
numbers_decide (Some m) None = (λ e. absurd (true≢false (sym e)), λ e. absurd (true≢false (ap (λ (o : Option ℕ). is_some o) e)))
numbers_decide None (Some n) = (λ e. absurd (true≢false (sym e)), λ e. absurd (true≢false (sym (ap (λ (o : Option ℕ). is_some o) e))))
numbers_decide None None = (λ e. refl, λ e. refl)

-- ---- choices

pub choices_total : IsTotalOrder (slice_cmp number_order)
choices_total = lists_total numbers_total

pub choices_decide : (c d : Choice) → Decides (same_choice c d) (c ≡ d)
choices_decide = pointwise_decides numbers_decide

pub choice_order : IsStrictOrder choice_before
choice_order = strict_order (slice_cmp number_order) choices_total (λ c d e. (choices_decide c d).0 (lists_ties number_order numbers_tie c d ∙ e))

-- ---- the same choice

pub same_from_test : (c d : Choice) → same_choice c d ≡ true → c ≡ d
same_from_test c d e = (choices_decide c d).0 e

pub test_from_same : (c d : Choice) → c ≡ d → same_choice c d ≡ true
test_from_same c d e = (choices_decide c d).1 e
