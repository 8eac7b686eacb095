use Rattle.std.proofs.Common.{◌≡◌, take, map, All}
use Rattle.lists.specs.Lists.{numbers_where}
use Rattle.bucket_grid.specs.Rects.{share_point}
use Rattle.bucket_grid.proofs.sharing.all_near.Given as goal

abbrev pub invariant-loop-i : goal.invariant-loop-i
invariant-loop-i g l = record {
  near : l.ids ≡ numbers_where (share_point l.rect) (take l.i (map g.T.Boxed.corners l.items));
  told : All g.T.Boxed.known (take l.i l.items);
}
