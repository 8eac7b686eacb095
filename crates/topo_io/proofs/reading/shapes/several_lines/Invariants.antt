use Rattle.std.proofs.Common.{All}
use Rattle.geojson_io.specs.Sound.{HasPoints}
use Rattle.topo_io.specs.Stitching.{has_points, path_of}
use Rattle.topo_io.proofs.ReadLemmas.{IsKeptTo}
use Rattle.topo_io.proofs.reading.shapes.several_lines.Given as goal

abbrev pub invariant-loop-item : goal.invariant-loop-item
invariant-loop-item l = IsKeptTo has_points (path_of l.arcs) l.items l.item-index l.initial.left l.lines l.left × All HasPoints l.lines
