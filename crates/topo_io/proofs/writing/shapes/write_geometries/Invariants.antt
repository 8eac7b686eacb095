use Rattle.std.proofs.Common.{◌≡◌, ◌++◌, ◌∷◌, [], zip}
use Rattle.topo_io.specs.Texts.{geometry_text}
use Rattle.geojson_io.proofs.TextLemmas.{shown_to}
use Rattle.topo_io.proofs.writing.shapes.write_geometries.Given as goal

abbrev pub invariant-loop-i : goal.invariant-loop-i
invariant-loop-i l = l.out ≡ l.initial.out ++ shown_to (geometry_text l.numbering.numbers.items l.keys) (44 ∷ []) (zip l.rows l.shapes) l.i
