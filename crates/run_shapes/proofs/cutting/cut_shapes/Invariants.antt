use Rattle.std.proofs.Common.{◌≡◌, length, take}
use Rattle.std.specs.List.{AllZip}
use Rattle.run_plane.specs.OnPlane.{AreOn}
use Rattle.run_shapes.specs.Cutting.{IsShapeLeft}
use Rattle.run_shapes.proofs.cutting.cut_shapes.Given as goal

abbrev pub invariant-loop-shape : goal.invariant-loop-shape
invariant-loop-shape l = record {
  exact : AllZip (IsShapeLeft l.keeps l.plane l.cut_set) (take l.shape-index l.shapes) l.left.items;
  on : AreOn l.plane l.left.items;
  count : length l.left.items ≡ l.shape-index;
}
