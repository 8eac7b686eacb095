use Rattle.std.proofs.Common.{◌≡◌, ◌++◌, ◌∷◌, []}
use Rattle.topo_io.specs.Texts.{rings_text}
use Rattle.geojson_io.proofs.TextLemmas.{shown_to}
use Rattle.topo_io.proofs.writing.shapes.write_polygons.Given as goal

abbrev pub invariant-loop-i : goal.invariant-loop-i
invariant-loop-i l = l.out ≡ l.initial.out ++ shown_to (rings_text l.numbering.numbers.items) (44 ∷ []) l.polygons l.i
