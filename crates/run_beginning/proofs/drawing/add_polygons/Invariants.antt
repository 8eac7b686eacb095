use Rattle.std.proofs.Common.{◌≡◌, ◌<◌, length, map}
use Rattle.std.specs.Prelude.{All}
use Rattle.std.specs.Vec.Iter.{into_iter_items, into_iter_len}
use Rattle.geojson_io.specs.Sound.{IsRing}
use Rattle.snap_round.specs.Paths.{with_polygons}
use Rattle.run_beginning.specs.Drawing.{drawn_rings}
use Rattle.run_beginning.proofs.drawing.add_polygons.Given as goal

abbrev pub invariant-loop-polygon : goal.invariant-loop-polygon
invariant-loop-polygon l = record {
  added : with_polygons (map drawn_rings (into_iter_items l.polygon-iterator)) l.drawing ≡ with_polygons (map drawn_rings l.fn.polygons.items) l.initial.drawing;
  feature : 0 < length l.drawing.polygons;
  sound : All (All IsRing) (into_iter_items l.polygon-iterator);
  count : into_iter_len l.polygon-iterator ≡ length (into_iter_items l.polygon-iterator);
}
