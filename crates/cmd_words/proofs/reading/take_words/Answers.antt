use Rattle.std.proofs.Common.{◌∙◌, ap, arith, Err}
use Rattle.std.proofs.lemmas.Result.{err_from_is_err_and}
use Rattle.cmd_words.proofs.Readings.{turns_stop, stops, goes_on}
use Rattle.cmd_words.proofs.Taking.{word_taken}
use Rattle.cmd_words.proofs.reading.take_words.Goals as goal

pub returns-in_err-take_numbered : goal.returns-in_err-take_numbered
returns-in_err-take_numbered c =
    let p = err_from_is_err_and c.from_residual.result c.from_residual.ensures.1 in
    record {
      exact = λ refuses right. turns_stop _ _ c.take_numbered.new.group _ _ c.in_err-take_numbered.field-0.0 (p.1 ∙ ap Err p.2) (c.in_err-take_numbered.ensures.exact refuses right)
          (λ q e. c.loop-word.invariant.left refuses right ∙ word_taken refuses _ _ _ _ _ c.as_str.result.now c.word-item.result _ c.as_str.ensures.lent c.loop-word-test.true c.word-item.is ∙ stops _ _ q e);
    }

pub loop-word-preserved : goal.loop-word-preserved
loop-word-preserved c = record {
  number = omega arith;
  left = λ refuses right. c.loop-word.invariant.left refuses right ∙ word_taken refuses _ _ _ _ _ c.as_str.result.now c.word-item.result _ c.as_str.ensures.lent c.loop-word-test.true c.word-item.is ∙ goes_on _ _ _ (c.in_ok-take_numbered.ensures.exact refuses right);
}
