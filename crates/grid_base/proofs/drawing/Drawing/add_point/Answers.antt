use Rattle.std.proofs.Common.{arith, ◌∷◌, [], ◌++◌}
use Rattle.std.proofs.lemmas.Result.{on_ok_weaker}
use Rattle.plane_model.specs.Points.{Path}
use Rattle.grid_base.proofs.LastLemmas.{write_last}
use Rattle.grid_base.proofs.drawing.Drawing.add_point.Goals as goal

pub returns-clause-ok : goal.returns-clause-ok
returns-clause-ok c =
    let put : Path → Path = λ feature. feature ++ c.args.p ∷ [] in
    on_ok_weaker c.push.result (λ h. λ i. record (c.self.view_is i) { points = h i })
    (write_last put c.self.inside.points.items c.args.self.now.points c.push.result c.len-last.result c.index_mut-feature.result.now c.push.new.self
    (λ i. (c.self.view_is i).points) (omega (arith, c.self.inside.points.ok.0)) c.requires c.index_mut-feature.ensures.value c.push.ensures.ok)
