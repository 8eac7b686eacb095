use Rattle.std.proofs.Common.{◌≡◌, ◌++◌, length, map}
use Rattle.std.specs.Vec.Iter.{into_iter_items, into_iter_len}
use Rattle.union_ops.specs.Union.{item_of}
use Rattle.union_ops.proofs.united_faces.items_of.Given as goal

abbrev pub invariant-loop-piece : goal.invariant-loop-piece
invariant-loop-piece l = record {
  pushed : l.items ++ map (item_of l.choices) (into_iter_items l.piece-iterator) ≡ map (item_of l.choices) l.fn.pieces.items;
  left : into_iter_len l.piece-iterator ≡ length (into_iter_items l.piece-iterator);
}
