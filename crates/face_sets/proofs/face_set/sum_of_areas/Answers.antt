use Rattle.std.proofs.Common.{◌∙◌, sym, ap, ℤ, ◌+ℤ◌, FitsSigned, to_z-of_z, rules}
use Rattle.std.specs.Int.{w128}
use Rattle.face_sets.proofs.AreaLemmas.{area_more}
use Rattle.face_sets.proofs.face_set.sum_of_areas.Goals as goal

pub loop-face-preserved : goal.loop-face-preserved
loop-face-preserved c =
    let sum_fits : FitsSigned w128 c.in_ok-sum.sum = search rules in
    let area_fits : FitsSigned w128 c.twice_area.result = search rules in
    let e = simp to_z-of_z at c.in_ok-sum.ensures.exact in
    simp to_z-of_z
    (e ∙ ap (λ (a : ℤ). a +ℤ c.twice_area.result) c.loop-face.invariant
    ∙ sym (area_more c.args.f.now.areas c.args.faces.now c.loop-face.face-index c.face-item.result c.face-item.result c.twice_area.result c.loop-face-test.true c.face-item.is c.twice_area.ensures.exact))
