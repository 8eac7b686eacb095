use Rattle.std.proofs.Common.{◌≡◌, ◌++◌, ◌∷◌, []}
use Rattle.geojson_io.proofs.TextLemmas.{shown_to}
use Rattle.topo_io.specs.Texts.{object_text}
use Rattle.topo_io.proofs.writing.write_objects.Given as goal

abbrev pub invariant-loop-i : goal.invariant-loop-i
invariant-loop-i l = l.out ≡ l.initial.out ++ shown_to (object_text l.numbering.numbers.items) (44 ∷ []) l.layers l.i
