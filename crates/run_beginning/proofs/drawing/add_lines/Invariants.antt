use Rattle.std.proofs.Common.{◌≡◌, ◌<◌, length}
use Rattle.std.specs.Prelude.{All}
use Rattle.std.specs.Vec.Iter.{into_iter_items, into_iter_len}
use Rattle.geojson_io.specs.Sound.{HasPoints}
use Rattle.snap_round.specs.Paths.{with_lines}
use Rattle.run_beginning.specs.Drawing.{drawn_lines}
use Rattle.run_beginning.proofs.drawing.add_lines.Given as goal

abbrev pub invariant-loop-line : goal.invariant-loop-line
invariant-loop-line l = record {
  added : with_lines (drawn_lines (into_iter_items l.line-iterator)) l.drawing ≡ with_lines (drawn_lines l.fn.lines.items) l.initial.drawing;
  feature : 0 < length l.drawing.lines;
  sound : All HasPoints (into_iter_items l.line-iterator);
  count : into_iter_len l.line-iterator ≡ length (into_iter_items l.line-iterator);
}
