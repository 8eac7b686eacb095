use Rattle.std.proofs.Common.{◌∷◌, [], ◌++◌, ◌∙◌, ap, List}
use Rattle.std.proofs.lemmas.Result.{on_ok_weaker}
use Rattle.plane_model.specs.Points.{Path}
use Rattle.grid_base.proofs.LastLemmas.{set_last}
use Rattle.grid_base.proofs.drawing.push_ring.Goals as goal

pub returns-clause-ok : goal.returns-clause-ok
returns-clause-ok c =
    let put : List Path → List Path = λ polygon. polygon ++ c.args.ring ∷ [] in
    on_ok_weaker c.push.result (λ h. set_last put c.args.polygons.now c.push.new.self c.last_mut.result.now c.requires (h ∙ ap put c.last_mut.ensures.last)) c.push.ensures.ok
