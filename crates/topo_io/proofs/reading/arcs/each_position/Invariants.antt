use Rattle.topo_io.specs.Positions.{no_sums, position_after}
use Rattle.topo_io.proofs.ReadLemmas.{IsAlongTo}
use Rattle.topo_io.proofs.reading.arcs.each_position.Given as goal

abbrev pub invariant-loop-item : goal.invariant-loop-item
invariant-loop-item l = IsAlongTo (position_after l.frame) l.items no_sums l.item-index l.path l.sums
