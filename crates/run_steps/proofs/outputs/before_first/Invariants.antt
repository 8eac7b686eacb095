use Rattle.std.proofs.Common.{◌≡◌, ◌+◌, drop}
use Rattle.std.specs.List.{position_or_len}
use Rattle.run_state.specs.Targets.{is_selected}
use Rattle.run_steps.proofs.outputs.before_first.Given as goal

abbrev pub invariant-loop-held : goal.invariant-loop-held
invariant-loop-held l = (l.count ≡ l.held-index) × (position_or_len (is_selected l.target) l.layers ≡ l.count + position_or_len (is_selected l.target) (drop l.held-index l.layers))
