use Rattle.std.proofs.Common.{◌≡◌, take, filter, nat_eq}
use Rattle.lists.specs.Lists.{has}
use Rattle.face_sets.proofs.face_set.taken.Given as goal

abbrev pub invariant-loop-f : goal.invariant-loop-f
invariant-loop-f l = l.kept.items ≡ filter (λ f. has nat_eq l.set f) (take l.f-index l.faces)
