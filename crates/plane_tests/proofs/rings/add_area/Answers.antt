use Rattle.std.proofs.Common.{◌≡◌, ◌++◌, ◌∷◌, ◌<◌, [], length, subst, sym}
use Rattle.lists.specs.Lists.{last_of}
use Rattle.plane_model.specs.Drawing.{Drawing}
use Rattle.grid_base.specs.Drawn.{add_polygon}
use Rattle.plane_tests.proofs.Last.{polygon_added, polygon_kept}
use Rattle.plane_tests.proofs.rings.add_area.Goals as goal

pub returns : goal.returns
returns c =
    let grown : c.add_feature.new.self ≡ record c.args.drawing.now { polygons = c.args.drawing.now.polygons ++ [] ∷ [] } = λ i. (c.in_ok-add_feature.ensures.ok i).1 in
    let begun : 0 < length (last_of [] c.add_polygon.new.self.polygons) =
    subst (λ (d : Drawing). 0 < length (last_of [] d.polygons)) (sym c.in_ok-add_polygon.ensures.ok)
    (subst (λ (d : Drawing). 0 < length (last_of [] (add_polygon d.polygons))) (sym grown) (polygon_added c.args.drawing.now.polygons)) in
    record {
      polygon = subst (λ (d : Drawing). 0 < length (last_of [] d.polygons)) (sym c.in_ok-add_ring.ensures.ok) (polygon_kept c.args.exterior c.add_polygon.new.self.polygons begun);
    }
