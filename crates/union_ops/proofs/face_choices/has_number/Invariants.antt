use Rattle.std.proofs.Common.{◌≡◌, drop}
use Rattle.union_ops.specs.Choices.{has_number}
use Rattle.union_ops.proofs.face_choices.has_number.Given as goal

abbrev pub invariant-loop-number : goal.invariant-loop-number
invariant-loop-number l = has_number l.choice ≡ has_number (drop l.number-index l.choice)
