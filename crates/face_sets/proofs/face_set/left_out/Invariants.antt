use Rattle.std.proofs.Common.{◌≡◌, take, filter, nat_eq, not}
use Rattle.lists.specs.Lists.{has}
use Rattle.face_sets.proofs.face_set.left_out.Given as goal

abbrev pub invariant-loop-f : goal.invariant-loop-f
invariant-loop-f l = l.kept.items ≡ filter (λ f. not (has nat_eq l.set f)) (take l.f-index l.faces)
