use Rattle.std.proofs.Common.{◌∙◌, ap, sym, Err}
use Rattle.std.proofs.lemmas.Result.{err_from_is_err_and}
use Rattle.cmd_words.specs.Rows.{import_form}
use Rattle.cmd_words.specs.Groups.{Group}
use Rattle.cmd_words.specs.Words.{take_words, words_from}
use Rattle.cmd_words.proofs.Readings.{answers_stop}
use Rattle.cmd_words.proofs.reading.read_import.Goals as goal

pub returns-in_err-take_words : goal.returns-in_err-take_words
returns-in_err-take_words c =
    let p = err_from_is_err_and c.from_residual.result c.from_residual.ensures.1 in
    record {
      exact = λ refuses right. answers_stop _ _ c.take_words.new.group _ c.in_err-take_words.field-0.0 (p.1 ∙ ap Err p.2) (c.in_err-take_words.ensures.exact refuses right)
          (λ q e. ap (λ (g : Group). take_words refuses 6 import_form g (words_from c.args.first c.args.words.now)) (sym c.new-group.ensures.empty) ∙ e);
    }

pub returns : goal.returns
returns c = record { exact = λ refuses right. ap (λ (g : Group). take_words refuses 6 import_form g (words_from c.args.first c.args.words.now)) (sym c.new-group.ensures.empty) ∙ c.in_ok-take_words.ensures.exact refuses right }
