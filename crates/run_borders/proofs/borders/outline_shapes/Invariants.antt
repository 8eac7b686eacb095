use Rattle.std.proofs.Common.{◌≡◌, length, map, take}
use Rattle.run_borders.specs.Borders.{border_line}
use Rattle.run_borders.proofs.borders.outline_shapes.Given as goal

abbrev pub invariant-loop-sided : goal.invariant-loop-sided
invariant-loop-sided l = record {
  exact : l.shapes.items ≡ map border_line (take l.sided-index l.arcs);
  count : length l.shapes.items ≡ l.sided-index;
}
