use Rattle.std.proofs.Common.{◌≡◌, drop}
use Rattle.run_state.specs.Targets.{targets}
use Rattle.run_checks.specs.Checks.{takes_all}
use Rattle.run_checks.proofs.checking.takes_all.Given as goal

abbrev pub invariant-loop-held : goal.invariant-loop-held
invariant-loop-held l = takes_all l.action (targets l.target l.layers) ≡ takes_all l.action (targets l.target (drop l.held-index l.layers))
