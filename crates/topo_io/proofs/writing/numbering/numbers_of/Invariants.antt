use Rattle.std.proofs.Common.{◌≡◌, ◌≤◌, ◌++◌, drop, length}
use Rattle.topo_io.specs.Arcs.{marks_before}
use Rattle.topo_io.proofs.writing.numbering.numbers_of.Given as goal

abbrev pub invariant-loop-used : goal.invariant-loop-used
invariant-loop-used l = (l.next ≤ l.used-index) × (length l.numbers.items ≡ l.used-index) × (l.numbers.items ++ marks_before l.next (drop l.used-index l.is_used) ≡ marks_before 0 l.is_used)
