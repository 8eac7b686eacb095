use Rattle.std.proofs.Common.{arith, ◌∷◌, [], ◌++◌, ◌∙◌, ap, List}
use Rattle.std.proofs.lemmas.Result.{on_ok_weaker}
use Rattle.plane_model.specs.Drawing.{Polygon}
use Rattle.grid_base.specs.Drawn.{with_last}
use Rattle.grid_base.proofs.LastLemmas.{write_last}
use Rattle.grid_base.proofs.drawing.Drawing.add_polygon.Goals as goal

pub returns-clause-ok : goal.returns-clause-ok
returns-clause-ok c =
    let put : List Polygon → List Polygon = λ feature. feature ++ c.in_ok-polygon.polygon ∷ [] in
    on_ok_weaker c.push.result (λ h. λ i. record (c.self.view_is i) { polygons = (h ∙ ap (λ (rings : Polygon). with_last (λ (feature : List Polygon). feature ++ rings ∷ []) c.args.self.now.polygons) c.in_ok-polygon.ensures.empty) i })
    (write_last put c.self.inside.polygons.items c.args.self.now.polygons c.push.result c.len-last.result c.index_mut-feature.result.now c.push.new.self
    (λ i. (c.self.view_is i).polygons) (omega (arith, c.self.inside.polygons.ok.0)) c.requires c.index_mut-feature.ensures.value c.push.ensures.ok)
