use Rattle.std.proofs.Common.{◌≡◌, ◌++◌, take}
use Rattle.geojson_io.specs.Texts.{features_text}
use Rattle.geojson_io.proofs.writing.write_features.Given as goal

abbrev pub invariant-loop-i : goal.invariant-loop-i
invariant-loop-i l = l.out ≡ l.initial.out ++ features_text l.places l.keys l.rows (take l.i l.shapes)
