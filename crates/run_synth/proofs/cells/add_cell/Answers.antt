use Rattle.std.proofs.Common.{◌≡◌, ◌∙◌, ◌<◌, ◌++◌, ◌∷◌, [], ap, length, subst, sym}
use Rattle.std.proofs.lemmas.Result.{on_ok_weaker}
use Rattle.lists.specs.Lists.{last_of}
use Rattle.plane_model.specs.Drawing.{Drawing}
use Rattle.grid_base.specs.Drawn.{add_polygon, add_ring}
use Rattle.run_synth.proofs.CellLemmas.{feature_there, polygon_there, ring_there}
use Rattle.run_synth.proofs.cells.add_cell.Goals as goal

pub add_polygon-requires : goal.add_polygon-requires
add_polygon-requires c =
    let old = c.args.drawing.now in
    let grown : c.add_feature.new.self ≡ record old { polygons = old.polygons ++ [] ∷ [] } = λ i. (c.in_ok-add_feature.ensures.ok i).1 in
    subst (λ (d : Drawing). 0 < length d.polygons) (sym grown) (feature_there old.polygons)

pub add_ring-requires-clause-polygon : goal.add_ring-requires-clause-polygon
add_ring-requires-clause-polygon c =
    let old = c.args.drawing.now in
    let grown : c.add_polygon.new.self ≡ record old { polygons = add_polygon (old.polygons ++ [] ∷ []) } =
    c.in_ok-add_polygon.ensures.ok ∙ (λ i. let d : Drawing = (c.in_ok-add_feature.ensures.ok i).1 in record d { polygons = add_polygon d.polygons }) in
    subst (λ (d : Drawing). 0 < length (last_of [] d.polygons)) (sym grown) (polygon_there old.polygons)

pub returns : goal.returns
returns c =
    let old = c.args.drawing.now in
    let ring = c.args.ring in
    let grown : c.add_polygon.new.self ≡ record old { polygons = add_polygon (old.polygons ++ [] ∷ []) } =
    c.in_ok-add_polygon.ensures.ok ∙ (λ i. let d : Drawing = (c.in_ok-add_feature.ensures.ok i).1 in record d { polygons = add_polygon d.polygons }) in
    record { added = on_ok_weaker c.add_ring.result (λ h. h ∙ ap (λ (d : Drawing). record d { polygons = add_ring ring d.polygons }) grown ∙ (λ i. record old { polygons = ring_there old.polygons ring i })) c.add_ring.ensures.ok }
