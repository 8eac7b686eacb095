use Rattle.std.proofs.Common.{◌≡◌, ◌++◌, ◌∷◌, [], zip}
use Rattle.geojson_io.specs.Texts.{member_text}
use Rattle.geojson_io.proofs.TextLemmas.{shown_to}
use Rattle.geojson_io.proofs.writing.properties.write_properties.Given as goal

abbrev pub invariant-loop-i : goal.invariant-loop-i
invariant-loop-i l = l.out ≡ l.initial.out ++ shown_to member_text (44 ∷ []) (zip l.keys l.fn.row) l.i
