use Rattle.std.proofs.Common.{◌≡◌, ◌++◌, ◌∷◌, []}
use Rattle.geojson_io.proofs.TextLemmas.{shown_to}
use Rattle.topo_io.specs.Texts.{numbered_arc_text}
use Rattle.topo_io.proofs.writing.arcs.write_arcs.Given as goal

abbrev pub invariant-loop-i : goal.invariant-loop-i
invariant-loop-i l = l.out ≡ l.initial.out ++ shown_to (numbered_arc_text l.arcs) (44 ∷ []) l.used l.i
