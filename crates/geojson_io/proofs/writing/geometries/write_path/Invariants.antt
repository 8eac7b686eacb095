use Rattle.std.proofs.Common.{◌≡◌, ◌++◌, ◌∷◌, []}
use Rattle.geojson_io.specs.Texts.{point_text}
use Rattle.geojson_io.proofs.TextLemmas.{shown_to}
use Rattle.geojson_io.proofs.writing.geometries.write_path.Given as goal

abbrev pub invariant-loop-i : goal.invariant-loop-i
invariant-loop-i l = l.out ≡ l.initial.out ++ shown_to (point_text l.places) (44 ∷ []) l.points l.i
