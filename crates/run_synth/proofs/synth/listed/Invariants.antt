use Rattle.std.proofs.Common.{◌≡◌}
use Rattle.run_synth.proofs.synth.listed.Given as goal

abbrev pub invariant-loop-set : goal.invariant-loop-set
invariant-loop-set l = l.list ≡ l.yielded
