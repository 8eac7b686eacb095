use Rattle.topo_io.proofs.StitchLemmas.{IsStitchedTo}
use Rattle.topo_io.proofs.reading.stitching.stitched.Given as goal

abbrev pub invariant-loop-item : goal.invariant-loop-item
invariant-loop-item l = IsStitchedTo l.arcs l.items l.initial.left l.item-index l.path l.left
