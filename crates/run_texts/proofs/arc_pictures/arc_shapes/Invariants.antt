use Rattle.std.proofs.Common.{◌≡◌, All, length, take}
use Rattle.std.specs.List.{AllZip}
use Rattle.topo_io.specs.Arcs.{ShapeIsBelow}
use Rattle.run_texts.specs.Tracing.{IsTraced}
use Rattle.run_texts.proofs.arc_pictures.arc_shapes.Given as goal

abbrev pub invariant-loop-shape : goal.invariant-loop-shape
invariant-loop-shape l = record {
  count : length l.traced ≡ l.shape-index;
  below : All (ShapeIsBelow (length l.plane.arcs)) l.traced;
  traced : AllZip (IsTraced l.plane) (take l.shape-index l.shapes) l.traced;
}
