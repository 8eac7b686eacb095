use Rattle.std.proofs.Common.{arith, ap, length, take, replicate, length-take-le, ◌∙◌, sym, ◌≡◌, ◌++◌, ◌≢◌, List, ℕ, inl, inr, ◌⊎◌, ◌%◌}
use Rattle.std.proofs.lemmas.Result.{on_ok_weaker}
use Rattle.numerals.specs.Decimal.{last_digits}
use Rattle.numerals.proofs.Digits.{trim_step, trim_end}
use Rattle.numerals.proofs.decimal.print_trimmed.Goals.{then-loop-count-test+else-n-eq0, else-loop-count-test}
use Rattle.numerals.proofs.decimal.print_trimmed.Goals as goal

pub loop-count-preserved : goal.loop-count-preserved
loop-count-preserved c = (omega arith, c.loop-count.invariant.1 ∙ trim_step c.loop-count.count _ c.loop-count.n (omega arith) c.if-n-eq0.true)

pub returns-clause-ok : goal.returns-clause-ok
returns-clause-ok c =
    let ended : (c.loop-count.count ≡ 0) ⊎ (c.loop-count.n % 10 ≢ 0) = elim c.loop-count-test.branch [ then-loop-count-test+else-n-eq0 w ↦ inr w.if-n-eq0.false | else-loop-count-test w ↦ inl (omega (arith, w.loop-count-test.false)) ] in
    let room : length (take c.loop-count.count (replicate 18 48)) ≡ c.loop-count.count = length-take-le c.loop-count.count (replicate 18 48) c.loop-count.invariant.0 in
    on_ok_weaker c.extend.result (λ e. e ∙ ap (λ (ds : List ℕ). c.args.out.now ++ ds) (c.write_digits.ensures.exact ∙ ap (λ (k : ℕ). last_digits k c.loop-count.n) room ∙ sym (trim_end c.loop-count.count c.loop-count.n ended) ∙ sym c.loop-count.invariant.1)) c.extend.ensures.ok
