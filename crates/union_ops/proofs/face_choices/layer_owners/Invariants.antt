use Rattle.std.proofs.Common.{take}
use Rattle.union_ops.specs.Choices.{AreLayerOwners}
use Rattle.union_ops.proofs.face_choices.layer_owners.Given as goal

abbrev pub invariant-loop-sets : goal.invariant-loop-sets
invariant-loop-sets l = AreLayerOwners (take l.sets-index l.sets-items) l.f.count l.owners.items
