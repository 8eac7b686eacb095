use Rattle.std.proofs.Common.{◌≡◌, ◌++◌, length, map}
use Rattle.std.specs.Vec.Iter.{into_iter_items, into_iter_len}
use Rattle.region_ops.specs.Mosaic.{item_of}
use Rattle.region_ops.proofs.shared_faces.items_of.Given as goal

abbrev pub invariant-loop-piece : goal.invariant-loop-piece
invariant-loop-piece l = record {
  pushed : l.items ++ map (item_of l.owners) (into_iter_items l.piece-iterator) ≡ map (item_of l.owners) l.fn.pieces.items;
  left : into_iter_len l.piece-iterator ≡ length (into_iter_items l.piece-iterator);
}
