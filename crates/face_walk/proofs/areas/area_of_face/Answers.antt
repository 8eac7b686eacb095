use Rattle.std.proofs.Common.{◌∙◌, sym, ap, rules, ◌<◌, ℤ, ◌+ℤ◌, length, take, FitsSigned, to_z-of_z}
use Rattle.std.specs.Int.{w128}
use Rattle.plane_model.specs.Arcs.{SignedArc, points_of}
use Rattle.face_walk.specs.Areas.{area_along, area_within}
use Rattle.face_walk.proofs.AreaLemmas.{area_within_more}
use Rattle.face_walk.proofs.areas.area_of_face.Goals as goal

pub loop-a-preserved : goal.loop-a-preserved
loop-a-preserved c =
    let arcs = c.args.t.now in
    let along = c.args.arcs.now in
    let i = c.loop-a.a-index in
    let more = c.in_ok-more.more in
    let l : i < length along = c.loop-a-test.true in
    let f₁ : FitsSigned w128 c.in_ok-area.area = search rules in
    let f₂ : FitsSigned w128 more = search rules in
    let e = simp to_z-of_z at c.in_ok-area.ensures.exact in
    simp to_z-of_z
    (e ∙ ap (λ (b : ℤ). b +ℤ more) c.loop-a.invariant
    ∙ ap (λ (b : ℤ). area_within arcs (take i along) +ℤ b) (c.in_ok-more.ensures.exact ∙ ap (λ (s : SignedArc). area_along (points_of arcs s)) c.a-item.is)
    ∙ sym (area_within_more arcs along i c.a-item.result l))
