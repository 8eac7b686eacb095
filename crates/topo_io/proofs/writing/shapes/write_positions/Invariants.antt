use Rattle.std.proofs.Common.{◌≡◌, ◌++◌, ◌∷◌, []}
use Rattle.geojson_io.specs.Texts.{point_text}
use Rattle.geojson_io.proofs.TextLemmas.{shown_to}
use Rattle.topo_io.proofs.writing.shapes.write_positions.Given as goal

abbrev pub invariant-loop-i : goal.invariant-loop-i
invariant-loop-i l = l.out ≡ l.initial.out ++ shown_to (point_text 0) (44 ∷ []) l.points l.i
