use Rattle.std.proofs.Common.{◌≡◌, take}
use Rattle.run_plane.proofs.copies.copy_shapes.Given as goal

abbrev pub invariant-loop-shape : goal.invariant-loop-shape
invariant-loop-shape l = l.copy.items ≡ take l.shape-index l.shapes
