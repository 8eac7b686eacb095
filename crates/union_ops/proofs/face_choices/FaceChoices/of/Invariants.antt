use Rattle.std.proofs.Common.{map}
use Rattle.union_ops.specs.Choices.{AreChoices}
use Rattle.union_ops.proofs.face_choices.FaceChoices.of.Given as goal

abbrev pub invariant-loop-n : goal.invariant-loop-n
invariant-loop-n l = AreChoices l.layers l.n (map (λ v. v.items) l.lists.items)
