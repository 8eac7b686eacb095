use Rattle.std.proofs.Common.{All}
use Rattle.geojson_io.specs.Sound.{IsRing}
use Rattle.topo_io.specs.Stitching.{has_points, ring_of}
use Rattle.topo_io.proofs.ReadLemmas.{IsKeptTo}
use Rattle.topo_io.proofs.reading.stitching.rings_of.Given as goal

abbrev pub invariant-loop-item : goal.invariant-loop-item
invariant-loop-item l = IsKeptTo has_points (ring_of l.arcs) l.items l.item-index l.initial.left l.rings l.left × All IsRing l.rings
