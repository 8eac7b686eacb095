use Rattle.std.proofs.Common.{◌≡◌, drop}
use Rattle.run_state.specs.Targets.{targets}
use Rattle.run_state.proofs.targets.first_selected.Given as goal

abbrev pub invariant-loop-held : goal.invariant-loop-held
invariant-loop-held l = targets l.target l.layers ≡ targets l.target (drop l.held-index l.layers)
