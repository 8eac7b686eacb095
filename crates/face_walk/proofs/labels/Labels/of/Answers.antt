use Rattle.std.proofs.Common.{subst}
use Rattle.plane_model.specs.Drawing.{Drawing}
use Rattle.face_walk.specs.PathSteps.{AreAllStepsOf}
use Rattle.face_walk.proofs.labels.Labels.of.Goals as goal

pub returns-clause-exact : goal.returns-clause-exact
returns-clause-exact c =
    let t = c.args.t.now in
    c.of_steps.ensures.exact t c.args.s.now c.requires.built (subst (λ (d : Drawing). AreAllStepsOf t d c.in_ok-steps.steps) c.paths.ensures.same c.in_ok-steps.ensures.steps)
