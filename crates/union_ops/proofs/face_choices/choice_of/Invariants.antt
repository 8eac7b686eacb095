use Rattle.std.proofs.Common.{◌≡◌, take}
use Rattle.union_ops.specs.Choices.{choice_among}
use Rattle.union_ops.proofs.face_choices.choice_of.Given as goal

abbrev pub invariant-loop-layer : goal.invariant-loop-layer
invariant-loop-layer l = l.choice.items ≡ choice_among (take l.layer-index l.owners) l.face
