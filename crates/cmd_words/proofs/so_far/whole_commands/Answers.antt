use Rattle.std.proofs.Common.{◌++◌, ◌∷◌, [], List, sym, subst}
use Rattle.job_terms.specs.declared.job.Command.{Command}
use Rattle.cmd_words.specs.ActionWords.{FitEach}
use Rattle.cmd_words.proofs.Readings.{one_more_fits}
use Rattle.cmd_words.proofs.so_far.whole_commands.Goals as goal

pub loop-command-preserved : goal.loop-command-preserved
loop-command-preserved c =
    subst (λ (cs : List Command). FitEach (c.loop-command.yielded ++ c.in-Some.command ∷ []) cs) (sym c.in_ok-push.ensures.ok)
    (one_more_fits c.loop-command.yielded c.loop-command.whole c.in-Some.command c.whole_command.result c.loop-command.invariant c.whole_command.ensures.fits)
