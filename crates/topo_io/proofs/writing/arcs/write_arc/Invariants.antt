use Rattle.std.proofs.Common.{◌≡◌, ◌++◌, ◌∷◌, [], drop, pos}
use Rattle.grid_base.specs.Sizes.{IsGridNumber}
use Rattle.geojson_io.specs.Texts.{point_text}
use Rattle.geojson_io.proofs.TextLemmas.{shown_to}
use Rattle.topo_io.specs.Texts.{differences}
use Rattle.topo_io.proofs.writing.arcs.write_arc.Given as goal

abbrev pub invariant-loop-i : goal.invariant-loop-i
invariant-loop-i l = IsGridNumber l.x × IsGridNumber l.y
    × (drop l.i (differences (record { x = pos 0; y = pos 0 }) l.points) ≡ differences (record { x = l.x; y = l.y }) (drop l.i l.points))
    × (l.out ≡ l.initial.out ++ shown_to (point_text 0) (44 ∷ []) (differences (record { x = pos 0; y = pos 0 }) l.points) l.i)
