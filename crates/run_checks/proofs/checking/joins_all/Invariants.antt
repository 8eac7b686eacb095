use Rattle.std.proofs.Common.{◌≡◌, drop}
use Rattle.run_state.specs.Targets.{targets}
use Rattle.run_checks.specs.Checks.{joins_all}
use Rattle.run_checks.proofs.checking.joins_all.Given as goal

abbrev pub invariant-loop-held : goal.invariant-loop-held
invariant-loop-held l = joins_all l.source (targets l.target l.layers) ≡ joins_all l.source (targets l.target (drop l.held-index l.layers))
