use Rattle.std.proofs.Common.{◌≡◌, length, map, take}
use Rattle.json_values.specs.Table.{AreRows}
use Rattle.run_borders.specs.Borders.{ranked_row}
use Rattle.run_borders.proofs.borders.ranked_rows.Given as goal

abbrev pub invariant-loop-sided : goal.invariant-loop-sided
invariant-loop-sided l = record {
  exact : l.rows ≡ map (ranked_row l.listed) (take l.sided-index l.arcs);
  count : length l.rows ≡ l.sided-index;
  widths : AreRows 2 l.rows;
}
