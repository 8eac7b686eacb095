use Rattle.std.proofs.Common.{length}
use Rattle.topo_io.specs.Stitching.{numbered_arc}
use Rattle.topo_io.proofs.ReadLemmas.{IsAlongTo}
use Rattle.topo_io.proofs.reading.arcs.each_arc.Given as goal

abbrev pub invariant-loop-item : goal.invariant-loop-item
invariant-loop-item l = IsAlongTo (numbered_arc l.frame) l.items 0 l.item-index l.arcs (length l.arcs)
