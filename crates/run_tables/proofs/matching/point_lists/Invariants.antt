use Rattle.std.proofs.Common.{◌≡◌, length, take}
use Rattle.run_tables.specs.Matching.{point_lists}
use Rattle.run_tables.proofs.matching.point_lists.Given as goal

abbrev pub invariant-loop-shape : goal.invariant-loop-shape
invariant-loop-shape l = record {
  exact : l.lists ≡ point_lists (take l.shape-index l.shapes);
  count : length l.lists ≡ l.shape-index;
}
