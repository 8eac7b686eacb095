use Rattle.std.proofs.Common.{◌∙◌, ap, Err}
use Rattle.std.proofs.lemmas.Result.{err_from_is_err_and}
use Rattle.cmd_words.proofs.Readings.{tells_job, tells_no_job}
use Rattle.cmd_words.proofs.reading.read_any.Goals as goal

pub returns-in_err-read_commands-clause-exact : goal.returns-in_err-read_commands-clause-exact
returns-in_err-read_commands-clause-exact c =
    let p = err_from_is_err_and c.from_residual.result c.from_residual.ensures.1 in
    λ refuses right. tells_no_job _ _ c.in_err-read_commands.field-0.0 (p.1 ∙ ap Err p.2) (c.in_err-read_commands.ensures.exact refuses right)

pub returns-clause-exact : goal.returns-clause-exact
returns-clause-exact c = λ refuses right. tells_job _ _ (c.in_ok-read_commands.ensures.exact refuses right)
