use Rattle.topo_io.specs.Shapes.{position}
use Rattle.geojson_io.proofs.ReadLemmas.{IsReadTo}
use Rattle.topo_io.proofs.reading.shapes.each_point.Given as goal

abbrev pub invariant-loop-item : goal.invariant-loop-item
invariant-loop-item l = IsReadTo (position l.frame) l.items l.item-index l.initial.left l.points l.left
