use Rattle.std.proofs.Common.{◌≡◌, drop}
use Rattle.std.specs.Cmp.Lexicographic.{slice_cmp}
use Rattle.union_ops.specs.Choices.{number_order}
use Rattle.union_ops.proofs.face_choices.choice_order.Given as goal

abbrev pub invariant-loop-i : goal.invariant-loop-i
invariant-loop-i l = slice_cmp number_order l.a l.b ≡ slice_cmp number_order (drop l.i l.a) (drop l.i l.b)
