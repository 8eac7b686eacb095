use Rattle.cmd_words.specs.ActionWords.{FitEach}
use Rattle.cmd_words.proofs.so_far.whole_commands.Given as goal

abbrev pub invariant-loop-command : goal.invariant-loop-command
invariant-loop-command l = FitEach l.yielded l.whole
