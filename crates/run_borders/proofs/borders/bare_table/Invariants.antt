use Rattle.std.proofs.Common.{◌≡◌, [], length, replicate}
use Rattle.json_values.specs.Table.{AreRows}
use Rattle.run_borders.proofs.borders.bare_table.Given as goal

abbrev pub invariant-loop-row : goal.invariant-loop-row
invariant-loop-row l = record {
  exact : l.rows ≡ replicate l._row [];
  count : length l.rows ≡ l._row;
  widths : AreRows 0 l.rows;
}
