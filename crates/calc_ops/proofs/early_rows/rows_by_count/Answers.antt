use Rattle.std.proofs.Common.{rules, ◌≡◌, ◌<◌, ◌∙◌, All, refl, sym, ap, subst, cond, ℕ, ◌+◌, ◌++◌, ◌∷◌, [], nat_lt, length}
use Rattle.std.specs.Prelude.{count_by, min, not, ◌&&◌}
use Rattle.std.specs.Bool.{beq}
use Rattle.std.proofs.lemmas.List.{length_push}
use Rattle.lists.specs.Lists.{numbers_where}
use Rattle.json_values.specs.Value.{same}
use Rattle.json_values.specs.declared.value.Value.{Value}
use Rattle.calc_ops.specs.EarlyRows.{are_early, count_in}
use Rattle.calc_ops.proofs.EarlyLemmas.{early_below, early_is, counted_more, one_more}
use Rattle.calc_ops.proofs.early_rows.rows_by_count.Goals.{then-branch-invert+in_ok-push, else-branch-invert}
use Rattle.calc_ops.proofs.early_rows.rows_by_count.Goals as goal

pub loop-key-preserved : goal.loop-key-preserved
loop-key-preserved c =
    let keys = c.loop-key.yielded in
    let key = c.in-Some.key in
    let most = c.args.most in
    let kept = beq (not c.args.invert) in
    let early = c.in_ok-counts_key.field-0 in
    let told : early ≡ nat_lt (min (count_by (same key) keys) most) most =
    c.in_ok-counts_key.ensures.early ∙ (λ j. nat_lt (count_in c.loop-key.counts (c.in_ok-counted.ensures.same j)) most)
    ∙ ap (λ (n : ℕ). nat_lt n most) (c.loop-key.invariant.counts key) in
    let told_all : early ≡ nat_lt (count_by (same key) keys) most = told ∙ early_is (count_by (same key) keys) most in
    let rows : c.if-branch-invert.rows ≡ c.loop-key.rows ++ cond (kept early) (c.loop-key.n ∷ []) [] = elim c.if-branch-invert.branch [ then-branch-invert+in_ok-push w ↦ search rules | else-branch-invert w ↦ search rules ] in
    let number : c.loop-key.n + 1 ≡ length (keys ++ key ∷ []) = ap (λ (n : ℕ). n + 1) c.loop-key.invariant.number ∙ sym (length_push keys key) in
    let exact : c.if-branch-invert.rows ≡ numbers_where kept (are_early most (keys ++ key ∷ [])) =
    rows ∙ (λ j. c.loop-key.invariant.exact j ++ cond (kept (told_all j)) (c.loop-key.invariant.number j ∷ []) []) ∙ one_more kept most keys key in
    record {
      number = number;
      exact = exact;
      within = subst (λ (n : ℕ). All (λ k. k < n) c.if-branch-invert.rows) (sym number)
          (subst (All (λ k. k < length (keys ++ key ∷ []))) (sym exact) (early_below kept most (keys ++ key ∷ [])));
      counts = λ (k : Value). c.in_ok-counts_key.ensures.counts k
          ∙ (λ j. c.loop-key.invariant.counts k j + cond (told j && same (c.in_ok-counted.ensures.same j) k) 1 0)
          ∙ counted_more most keys key k (same key k) refl;
    }
