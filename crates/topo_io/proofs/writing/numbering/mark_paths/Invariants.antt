use Rattle.std.proofs.Common.{◌≡◌, length, drop}
use Rattle.std.specs.List.{flat_map}
use Rattle.topo_io.specs.Arcs.{marked, named_in_path}
use Rattle.topo_io.proofs.writing.numbering.mark_paths.Given as goal

abbrev pub invariant-loop-path : goal.invariant-loop-path
invariant-loop-path l = (length l.is_used ≡ length l.initial.is_used)
    × (marked l.is_used (flat_map named_in_path (drop l.path-index l.paths)) ≡ marked l.initial.is_used (flat_map named_in_path l.paths))
