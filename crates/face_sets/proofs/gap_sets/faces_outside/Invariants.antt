use Rattle.std.proofs.Common.{◌≡◌, filter, nat_eq, not}
use Rattle.std.specs.List.{range_with_len}
use Rattle.lists.specs.Lists.{has}
use Rattle.face_sets.proofs.gap_sets.faces_outside.Given as goal

abbrev pub invariant-loop-n : goal.invariant-loop-n
invariant-loop-n l = l.outside.items ≡ filter (λ k. not (has nat_eq l.set k)) (range_with_len 0 l.n)
