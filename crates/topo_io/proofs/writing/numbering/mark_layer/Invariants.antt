use Rattle.std.proofs.Common.{◌≡◌, length, drop}
use Rattle.std.specs.List.{flat_map}
use Rattle.topo_io.specs.Arcs.{marked, named_in_shape}
use Rattle.topo_io.proofs.writing.numbering.mark_layer.Given as goal

abbrev pub invariant-loop-shape : goal.invariant-loop-shape
invariant-loop-shape l = (length l.is_used ≡ length l.initial.is_used)
    × (marked l.is_used (flat_map named_in_shape (drop l.shape-index l.shapes)) ≡ marked l.initial.is_used (flat_map named_in_shape l.shapes))
