use Rattle.std.proofs.Common.{◌≡◌, take, filter, nat_eq}
use Rattle.lists.specs.Lists.{has}
use Rattle.spatial_join.proofs.joined.matching.Given as goal

abbrev pub invariant-loop-n : goal.invariant-loop-n
invariant-loop-n l = l.both ≡ filter (has nat_eq l.remaining) (take l.n-index l.matched)
