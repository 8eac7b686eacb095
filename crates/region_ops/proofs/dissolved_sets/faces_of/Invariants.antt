use Rattle.std.proofs.Common.{◌≡◌, take}
use Rattle.std.specs.List.{flat_map}
use Rattle.region_ops.specs.Dissolved.{set_at}
use Rattle.region_ops.proofs.dissolved_sets.faces_of.Given as goal

abbrev pub invariant-loop-n : goal.invariant-loop-n
invariant-loop-n l = l.faces.items ≡ flat_map (set_at l.old) (take l.n-index l.group)
