use Rattle.std.proofs.Common.{◌≡◌, length, map, take}
use Rattle.run_borders.specs.Dissolving.{no_shape}
use Rattle.run_borders.proofs.dissolving.nothings.Given as goal

abbrev pub invariant-loop-group : goal.invariant-loop-group
invariant-loop-group l = record {
  exact : l.list.items ≡ map no_shape (take l._group-index l.groups);
  count : length l.list.items ≡ l._group-index;
}
