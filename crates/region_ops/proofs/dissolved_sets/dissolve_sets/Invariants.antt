use Rattle.std.proofs.Common.{◌≡◌, take, map}
use Rattle.region_ops.specs.Dissolved.{union_of}
use Rattle.region_ops.proofs.dissolved_sets.dissolve_sets.Given as goal

abbrev pub invariant-loop-group : goal.invariant-loop-group
invariant-loop-group l = l.sets ≡ map (union_of l.old) (take l.group-index l.groups)
