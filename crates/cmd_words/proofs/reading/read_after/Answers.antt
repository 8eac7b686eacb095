use Rattle.std.proofs.Common.{◌∙◌, ap, sym, not, Err}
use Rattle.std.proofs.lemmas.Result.{err_from_is_err_and}
use Rattle.cmd_words.specs.Cuts.{commands_of}
use Rattle.cmd_words.specs.Tells.{FitsChain}
use Rattle.cmd_words.proofs.Readings.{tells_stop, stops}
use Rattle.cmd_words.proofs.Past.{after_read, chain_fits}
use Rattle.cmd_words.proofs.reading.read_after.Goals as goal

pub returns-in_err-take_commands-clause-exact : goal.returns-in_err-take_commands-clause-exact
returns-in_err-take_commands-clause-exact c =
    let p = err_from_is_err_and c.from_residual-in_err-take_commands.result c.from_residual-in_err-take_commands.ensures.1 in
    λ refuses right. tells_stop FitsChain _ _ c.take_commands.new.so_far _ c.in_err-take_commands.field-0.0 (p.1 ∙ ap Err p.2) (c.in_err-take_commands.ensures.exact refuses right)
    (λ q e. after_read refuses c.args.group.now (commands_of c.args.first c.args.words.now) c.places_in-places.result c.in_ok-so_far.so_far (ap not (sym c.has_argument.ensures.exact ∙ c.if-not-has_argument.false)) c.places_in-places.ensures.exact c.in_ok-so_far.ensures.exact ∙ stops _ _ q e)

pub returns-clause-exact : goal.returns-clause-exact
returns-clause-exact c =
    λ refuses right. chain_fits refuses c.args.group.now (commands_of c.args.first c.args.words.now) c.places_in-places.result c.in_ok-so_far.so_far _ _ (ap not (sym c.has_argument.ensures.exact ∙ c.if-not-has_argument.false)) c.places_in-places.ensures.exact c.in_ok-so_far.ensures.exact (c.in_ok-take_commands.ensures.exact refuses right) c.in_ok-into_chain.ensures.places c.in_ok-into_chain.ensures.sources c.in_ok-into_chain.ensures.boxes c.in_ok-into_chain.ensures.commands
