-- Lists of numbers in lexicographic order.
use Rattle.std.proofs.Common.{◌≡◌, refl, ◌∙◌, subst, arith, ℕ, nat_lt, List}
use Rattle.std.specs.Ordering.{nat_cmp, is_lt}
use Rattle.std.specs.Cmp.Lexicographic.{slice_cmp, bytes_decides, texts_ties}
use Rattle.std.proofs.lemmas.Bool.Decides.{nat_tests}
use Rattle.std.proofs.lemmas.Cmp.{nat_list_cmp_total, same_from_slice_cmp}
use Rattle.lists.specs.Lists.{list_before}
use Rattle.lists.proofs.Ascending.{IsStrictOrder}
use Rattle.face_sets.proofs.Orders.{strict_order}

-- the order by which lists are compared
pub before_is_less : (xs ys : List ℕ) → is_lt (slice_cmp nat_cmp xs ys) ≡ list_before nat_lt xs ys
before_is_less xs ys = same_from_slice_cmp nat_cmp is_lt (list_before nat_lt) refl (λ _ _. refl) (λ _ _. refl) (λ x y xs ys o h. grind (arith, nat_tests)) xs ys (slice_cmp nat_cmp xs ys) refl

pub less_order : IsStrictOrder (λ (xs ys : List ℕ). is_lt (slice_cmp nat_cmp xs ys))
less_order = strict_order (slice_cmp nat_cmp) nat_list_cmp_total (λ xs ys e. (bytes_decides xs ys).0 (texts_ties xs ys ∙ e))

pub list_order : IsStrictOrder (list_before nat_lt)
list_order = subst IsStrictOrder (λ i xs ys. before_is_less xs ys i) less_order
