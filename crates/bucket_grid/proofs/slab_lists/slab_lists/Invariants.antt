use Rattle.std.proofs.Common.{take, map}
use Rattle.bucket_grid.specs.Slabs.{AreListed}
use Rattle.bucket_grid.proofs.slab_lists.slab_lists.Given as goal

abbrev pub invariant-loop-i : goal.invariant-loop-i
invariant-loop-i g l = AreListed l.slabs (map g.T.Boxed.corners l.items) (take l.i-index l.near) l.lists.items
