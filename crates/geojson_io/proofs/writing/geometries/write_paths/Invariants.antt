use Rattle.std.proofs.Common.{◌≡◌, ◌++◌, ◌∷◌, []}
use Rattle.geojson_io.specs.Texts.{path_text}
use Rattle.geojson_io.proofs.TextLemmas.{shown_to}
use Rattle.geojson_io.proofs.writing.geometries.write_paths.Given as goal

abbrev pub invariant-loop-i : goal.invariant-loop-i
invariant-loop-i l = l.out ≡ l.initial.out ++ shown_to (path_text l.places) (44 ∷ []) l.paths l.i
