use Rattle.std.proofs.Common.{◌≡◌, map, take}
use Rattle.run_beginning.specs.BegunLayers.{row_shape}
use Rattle.run_beginning.proofs.drawing.row_shapes.Given as goal

abbrev pub invariant-loop-shape : goal.invariant-loop-shape
invariant-loop-shape l = l.rows.items ≡ map row_shape (take l._shape-index l.shapes)
