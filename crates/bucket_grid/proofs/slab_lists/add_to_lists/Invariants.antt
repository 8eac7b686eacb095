use Rattle.std.proofs.Common.{◌≤◌, max}
use Rattle.bucket_grid.specs.Slabs.{IsPutInto}
use Rattle.bucket_grid.proofs.slab_lists.add_to_lists.Given as goal

abbrev pub invariant-loop-k : goal.invariant-loop-k
invariant-loop-k l = IsPutInto l.from l.k l.id l.fn.lists.items l.lists.items × (l.k ≤ max l.from l.end)
