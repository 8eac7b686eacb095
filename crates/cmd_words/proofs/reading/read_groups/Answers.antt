use Rattle.std.proofs.Common.{◌∙◌, ap, Err, refl, sym, subst, length, drop, ℕ, ◌+◌}
use Rattle.std.proofs.lemmas.Result.{err_from_is_err_and}
use Rattle.cmd_words.specs.Tells.{FitsChain}
use Rattle.cmd_words.specs.Cuts.{BeginsACommand}
use Rattle.cmd_words.proofs.Readings.{tells_stop_answer, tells_on, stops}
use Rattle.cmd_words.proofs.Cuts.{read_cut, begins_after_cut}
use Rattle.cmd_words.proofs.reading.read_groups.Goals as goal

pub returns-in_err-group-clause-exact : goal.returns-in_err-group-clause-exact
returns-in_err-group-clause-exact c =
    let p = err_from_is_err_and c.from_residual.result c.from_residual.ensures.1 in
    λ refuses right. tells_stop_answer FitsChain _ _ _ c.in_err-group.field-0.0 (p.1 ∙ ap Err p.2) (c.in_err-group.ensures.exact refuses right)
    (λ q e. read_cut refuses c.args.first (c.args.first + c.plain_count.result) c.plain_count.result c.args.words.now c.split_at.result.0.now c.split_at.result.1.now c.plain_count.ensures.exact c.split_at.ensures.front c.split_at.ensures.back refl ∙ stops _ _ q e)

pub read_after-requires-clause-begins : goal.read_after-requires-clause-begins
read_after-requires-clause-begins c = subst BeginsACommand (sym (c.split_at.ensures.back ∙ ap (λ (k : ℕ). drop k c.args.words.now) c.plain_count.ensures.exact)) (begins_after_cut c.args.words.now)

pub returns-clause-exact : goal.returns-clause-exact
returns-clause-exact c =
    λ refuses right. tells_on FitsChain _ _ c.in_ok-group.group _ _
    (read_cut refuses c.args.first (c.args.first + length c.split_at.result.0.now) c.plain_count.result c.args.words.now c.split_at.result.0.now c.split_at.result.1.now c.plain_count.ensures.exact c.split_at.ensures.front c.split_at.ensures.back (ap (λ (k : ℕ). c.args.first + k) c.split_at.ensures.front_len))
    (c.in_ok-group.ensures.exact refuses right) (c.read_after.ensures.exact refuses right)
