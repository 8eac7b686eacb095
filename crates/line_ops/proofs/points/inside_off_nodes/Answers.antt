use Rattle.std.proofs.Common.{◌∙◌, ap}
use Rattle.plane_model.specs.Arcs.{forward}
use Rattle.line_ops.specs.Inside.{is_inside}
use Rattle.line_ops.proofs.PointLemmas.{one_least}
use Rattle.line_ops.proofs.points.inside_off_nodes.Goals as goal

pub returns-in-Some-clause-on_arc : goal.returns-in-Some-clause-on_arc
returns-in-Some-clause-on_arc c = λ n least.
    c.is_inside.ensures.exact
    ∙ ap (is_inside c.args.f.now c.args.set.now) (c.forward.ensures.made ∙ ap forward (one_least c.args.t.now c.args.p c.in-Some.id n c.in-Some.ensures.exact least))

pub returns-in-Some-clause-alone : goal.returns-in-Some-clause-alone
returns-in-Some-clause-alone c = λ off. let h = c.in-Some.ensures.exact in absurd (off c.in-Some.id h.there h.on)

pub returns-in-None-clause-on_arc : goal.returns-in-None-clause-on_arc
returns-in-None-clause-on_arc c = λ n least. absurd (c.in-None.ensures.exact n least.there least.on)
