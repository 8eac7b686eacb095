use Rattle.std.proofs.Common.{◌≡◌, length, map, take}
use Rattle.json_values.specs.Table.{AreRows}
use Rattle.run_shapes.specs.Cleaning.{ids_row}
use Rattle.run_shapes.proofs.cleaning.holder_rows.Given as goal

abbrev pub invariant-loop-item : goal.invariant-loop-item
invariant-loop-item l = record {
  exact : l.rows ≡ map ids_row (take l.item-index l.items);
  count : length l.rows ≡ l.item-index;
  widths : AreRows 1 l.rows;
}
