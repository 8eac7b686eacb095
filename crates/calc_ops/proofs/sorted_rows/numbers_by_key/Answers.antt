use Rattle.std.proofs.Common.{rules, ◌≡◌, ◌∙◌, sym, ap, subst, ℕ, List, length}
use Rattle.std.specs.List.{range_with_len}
use Rattle.std.specs.List.Sorted.{IsPermutation}
use Rattle.std.specs.Ordering.{is_lt}
use Rattle.std.proofs.lemmas.Fn.{always_returns_same}
use Rattle.calc_ops.specs.KeyOrder.{row_order}
use Rattle.calc_ops.proofs.SortLemmas.{before_weak, sorted_by_key, numbers_moved}
use Rattle.calc_ops.proofs.sorted_rows.numbers_by_key.Goals as goal

pub returns : goal.returns
returns c =
    let descending = c.args.descending in
    let keys = c.args.keys.now in
    let old = c.in_ok-numbers.numbers.items in
    let new = c.sort_unstable_by.new.self.items in
    let all : old ≡ range_with_len 0 (length keys) = c.in_ok-numbers.ensures.exact ∙ ap (range_with_len 0) (sym c.requires.each) in
    let moved : IsPermutation (range_with_len 0 (length keys)) new = subst (λ (xs : List ℕ). IsPermutation xs new) all c.sort_unstable_by.ensures.permutation in
    record {
      exact = sorted_by_key descending keys (length keys) new moved
          (c.sort_unstable_by.ensures.sorted (λ m n. is_lt (row_order descending keys m n)) (before_weak descending keys) (always_returns_same _ (λ a r. is_lt r ≡ is_lt (row_order descending keys a.0.now a.1.0.now)) _ (λ a r q k. search rules)));
      within = numbers_moved (length keys) new moved;
    }
