use Rattle.std.proofs.Common.{◌≡◌, ◌+◌, ◌++◌, length, map}
use Rattle.std.specs.Vec.Iter.{into_iter_items, into_iter_len}
use Rattle.run_borders.specs.Uniting.{item_shape}
use Rattle.run_borders.proofs.uniting.item_shapes.Given as goal

abbrev pub invariant-loop-item : goal.invariant-loop-item
invariant-loop-item l = record {
  exact : l.shapes.items ++ map item_shape (into_iter_items l.item-iterator) ≡ map item_shape l.fn.items.items;
  count : length l.shapes.items + length (into_iter_items l.item-iterator) ≡ length l.fn.items.items;
  left : into_iter_len l.item-iterator ≡ length (into_iter_items l.item-iterator);
}
