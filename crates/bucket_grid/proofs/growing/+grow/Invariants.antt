use Rattle.std.proofs.Common.{◌≡◌, ℕ, ◌+◌, ◌-◌, ◌<◌, [], length, map, get_or, vec_len}
use Rattle.bucket_grid.specs.Rects.{boxes_near}
use Rattle.bucket_grid.specs.Slabs.{slab_part}
use Rattle.bucket_grid.specs.Tree.{Grew}
use Rattle.bucket_grid.proofs.Growth.{IsFrom, top_of}
use Rattle.bucket_grid.proofs.growing.+grow.Given as goal

abbrev pub decreases-grow : goal.decreases-grow
decreases-grow g l = l.steps

abbrev pub invariant-loop-part : goal.invariant-loop-part
invariant-loop-part g l =
    ((k : ℕ) → k < length l.lists.items → get_or l.lists.items k [] ≡ boxes_near (map g.T.Boxed.corners l.items) (slab_part l.slabs k l.rect))
    × (length l.tops.items + length l.lists.items ≡ l.slabs.last + 1)
    × Grew (l.steps - 1) (map g.T.Boxed.corners l.items) (IsFrom l.rect l.slabs (length l.lists.items)) l.fn.forest.nodes.items l.forest.nodes.items l.fn.forest.rects.items l.forest.rects.items l.fn.forest.near l.forest.near (top_of l.slabs l.tops.items)

abbrev pub decreases-loop-part : goal.decreases-loop-part
decreases-loop-part g l = vec_len l.lists
