use Rattle.std.proofs.Common.{◌≡◌, take}
use Rattle.std.specs.List.{flat_map}
use Rattle.run_plane.specs.Shapes.{faces_in}
use Rattle.run_state.proofs.layer_sets.union_of.Given as goal

abbrev pub invariant-loop-shape : goal.invariant-loop-shape
invariant-loop-shape l = l.faces.items ≡ flat_map faces_in (take l.shape-index l.shapes)
