use Rattle.std.proofs.Common.{◌≡◌, ◌++◌, length}
use Rattle.std.specs.Vec.Iter.{into_iter_items, into_iter_len}
use Rattle.face_groups.specs.Pieces.{pieces_of}
use Rattle.face_groups.proofs.pieces.push_parts.Given as goal

abbrev pub invariant-loop-set : goal.invariant-loop-set
invariant-loop-set l = record {
  pushed : l.pieces.items ++ pieces_of l.face (into_iter_items l.set-iterator) ≡ l.fn.pieces.items ++ pieces_of l.face l.fn.parts.items;
  left : into_iter_len l.set-iterator ≡ length (into_iter_items l.set-iterator);
}
