use Rattle.std.proofs.Common.{◌≡◌, length, drop}
use Rattle.std.specs.List.{flat_map}
use Rattle.topo_io.specs.Arcs.{marked, named_in_layer}
use Rattle.topo_io.proofs.writing.numbering.mark_layers.Given as goal

abbrev pub invariant-loop-layer : goal.invariant-loop-layer
invariant-loop-layer l = (length l.is_used ≡ length l.initial.is_used)
    × (marked l.is_used (flat_map named_in_layer (drop l.layer-index l.layers)) ≡ marked l.initial.is_used (flat_map named_in_layer l.layers))
