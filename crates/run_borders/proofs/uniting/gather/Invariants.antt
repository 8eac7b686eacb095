use Rattle.std.proofs.Common.{take}
use Rattle.run_borders.specs.Uniting.{AreGathered}
use Rattle.run_state.specs.Targets.{targets}
use Rattle.run_borders.proofs.uniting.gather.Given as goal

abbrev pub invariant-loop-held : goal.invariant-loop-held
invariant-loop-held l = AreGathered (targets l.target (take l.held-index l.layers)) l.tables l.sets
