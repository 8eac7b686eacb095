use Rattle.std.proofs.Common.{◌≡◌, ◌++◌, drop}
use Rattle.std.specs.Prelude.{option_copied, option_to_list}
use Rattle.run_state.specs.Targets.{wanted_layers}
use Rattle.run_state.proofs.targets.only_where.Given as goal

abbrev pub invariant-loop-held : goal.invariant-loop-held
invariant-loop-held l = wanted_layers l.wanted l.layers ≡ option_to_list (option_copied l.found) ++ wanted_layers l.wanted (drop l.held-index l.layers)
