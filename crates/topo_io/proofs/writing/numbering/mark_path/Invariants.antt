use Rattle.std.proofs.Common.{◌≡◌, length, drop}
use Rattle.topo_io.specs.Arcs.{marked, named_in_path}
use Rattle.topo_io.proofs.writing.numbering.mark_path.Given as goal

abbrev pub invariant-loop-arc : goal.invariant-loop-arc
invariant-loop-arc l = (length l.is_used ≡ length l.initial.is_used)
    × (marked l.is_used (named_in_path (drop l.arc-index l.path)) ≡ marked l.initial.is_used (named_in_path l.path))
