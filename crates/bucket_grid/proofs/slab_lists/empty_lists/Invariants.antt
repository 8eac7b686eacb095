use Rattle.std.proofs.Common.{◌≡◌, ℕ, [], length, get_or}
use Rattle.bucket_grid.proofs.slab_lists.empty_lists.Given as goal

abbrev pub invariant-loop-i : goal.invariant-loop-i
invariant-loop-i l = (length l.lists.items ≡ l._i) × ((k : ℕ) → get_or l.lists.items k [] ≡ [])
