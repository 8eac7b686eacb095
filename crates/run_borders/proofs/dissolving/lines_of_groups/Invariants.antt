use Rattle.std.proofs.Common.{◌≡◌, length, map, take}
use Rattle.run_borders.specs.Dissolving.{line_shape}
use Rattle.run_borders.proofs.dissolving.lines_of_groups.Given as goal

abbrev pub invariant-loop-group : goal.invariant-loop-group
invariant-loop-group l = record {
  exact : l.list.items ≡ map (line_shape l.shapes) (take l.group-index l.groups);
  count : length l.list.items ≡ l.group-index;
}
