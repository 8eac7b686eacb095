use Rattle.std.proofs.Common.{◌≡◌, length, map, take}
use Rattle.run_borders.specs.Borders.{line_along}
use Rattle.run_borders.proofs.borders.inner_shapes.Given as goal

abbrev pub invariant-loop-arc : goal.invariant-loop-arc
invariant-loop-arc l = record {
  exact : l.shapes.items ≡ map line_along (take l.arc-index l.arcs);
  count : length l.shapes.items ≡ l.arc-index;
}
