use Rattle.std.proofs.Common.{◌≡◌, drop}
use Rattle.run_state.specs.Targets.{targets}
use Rattle.run_checks.specs.Checks.{takes_together}
use Rattle.run_checks.proofs.checking.takes_together.Given as goal

abbrev pub invariant-loop-held : goal.invariant-loop-held
invariant-loop-held l = takes_together l.action l.first (targets l.target l.layers) ≡ takes_together l.action l.first (targets l.target (drop l.held-index l.layers))
