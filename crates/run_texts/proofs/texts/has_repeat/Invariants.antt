use Rattle.std.proofs.Common.{◌≡◌, false, take}
use Rattle.run_state.specs.Targets.{targets}
use Rattle.run_texts.specs.Written.{has_name_twice, names_of_layers}
use Rattle.run_texts.proofs.texts.has_repeat.Given as goal

abbrev pub invariant-loop-held : goal.invariant-loop-held
invariant-loop-held l = record {
  seen : l.seen ≡ names_of_layers (targets l.target (take l.held-index l.layers));
  once : has_name_twice (names_of_layers (targets l.target (take l.held-index l.layers))) ≡ false;
}
