use Rattle.std.proofs.Common.{◌≡◌, [], All, length, map}
use Rattle.grid_base.proofs.list_types.empty_lists.Given as goal

abbrev pub invariant-loop-list : goal.invariant-loop-list
invariant-loop-list g l = (length l.lists.items ≡ l._list) × All (λ list. list ≡ []) (map (λ list. list.items) l.lists.items)
