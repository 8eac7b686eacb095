use Rattle.std.proofs.Common.{All}
use Rattle.geojson_io.specs.Geometries.{has_rings}
use Rattle.topo_io.specs.Shapes.{polygon_of}
use Rattle.geojson_io.specs.Sound.{IsRing}
use Rattle.topo_io.proofs.ReadLemmas.{IsKeptTo}
use Rattle.topo_io.proofs.reading.shapes.several_polygons.Given as goal

abbrev pub invariant-loop-item : goal.invariant-loop-item
invariant-loop-item l = IsKeptTo has_rings (polygon_of l.arcs) l.items l.item-index l.initial.left l.polygons l.left × All (All IsRing) l.polygons
