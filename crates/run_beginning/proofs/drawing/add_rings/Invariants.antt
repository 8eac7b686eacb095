use Rattle.std.proofs.Common.{◌≡◌, ◌<◌, length, []}
use Rattle.std.specs.Prelude.{All}
use Rattle.std.specs.Vec.Iter.{into_iter_items, into_iter_len}
use Rattle.lists.specs.Lists.{last_of}
use Rattle.geojson_io.specs.Sound.{IsRing}
use Rattle.snap_round.specs.Paths.{with_rings}
use Rattle.run_beginning.specs.Drawing.{drawn_rings}
use Rattle.run_beginning.proofs.drawing.add_rings.Given as goal

abbrev pub invariant-loop-ring : goal.invariant-loop-ring
invariant-loop-ring l = record {
  added : with_rings (drawn_rings (into_iter_items l.ring-iterator)) l.drawing ≡ with_rings (drawn_rings l.fn.rings.items) l.initial.drawing;
  polygon : 0 < length (last_of [] l.drawing.polygons);
  sound : All IsRing (into_iter_items l.ring-iterator);
  count : into_iter_len l.ring-iterator ≡ length (into_iter_items l.ring-iterator);
}
