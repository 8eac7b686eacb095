use Rattle.std.proofs.Common.{◌≡◌, map}
use Rattle.spatial_join.proofs.matches.group_list.Given as goal

abbrev pub invariant-loop-list : goal.invariant-loop-list
invariant-loop-list l = l.groups ≡ map (λ list. list.items) l.yielded
