use Rattle.std.proofs.Common.{◌≡◌, take, map}
use Rattle.region_ops.specs.Cut.{meet}
use Rattle.region_ops.proofs.cut_sets.clip_sets.Given as goal

abbrev pub invariant-loop-set : goal.invariant-loop-set
invariant-loop-set l = l.sets ≡ map (meet l.cut_set) (take l.set-index l.old)
