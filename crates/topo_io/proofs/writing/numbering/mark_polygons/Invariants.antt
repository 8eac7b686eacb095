use Rattle.std.proofs.Common.{◌≡◌, length, drop}
use Rattle.std.specs.List.{flat_map}
use Rattle.topo_io.specs.Arcs.{marked, named_in_paths}
use Rattle.topo_io.proofs.writing.numbering.mark_polygons.Given as goal

abbrev pub invariant-loop-polygon : goal.invariant-loop-polygon
invariant-loop-polygon l = (length l.is_used ≡ length l.initial.is_used)
    × (marked l.is_used (flat_map named_in_paths (drop l.polygon-index l.polygons)) ≡ marked l.initial.is_used (flat_map named_in_paths l.polygons))
