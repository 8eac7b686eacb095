use Rattle.std.proofs.Common.{rules, ◌≡◌, ◌∙◌, ap, arith, ◌<◌, ℕ, ℤ, length, get_or, FitsSigned, to_z-of_z}
use Rattle.std.specs.Int.{w128}
use Rattle.std.proofs.lemmas.List.FromFn.{get_or-map-range_with_len}
use Rattle.face_walk.specs.Areas.{area_within}
use Rattle.face_walk.specs.Places.{FaceTable, areas_of_faces, arcs_with_left}
use Rattle.face_walk.proofs.faces.Faces.twice_area.Goals as goal

pub returns-clause-summed : goal.returns-clause-summed
returns-clause-summed c = λ arcs built.
    let area : ℤ = c.index.result.now in
    let areas = c.self.inside.areas.items in
    let f = c.args.f in
    let fits : FitsSigned w128 area = search rules in
    let of_face : ℕ → ℤ = λ g. area_within arcs (arcs_with_left c.args.self.now.places (length arcs) g) in
    let read : area ≡ get_or areas c.num.result area = c.index.ensures in
    let there : f < c.args.self.now.count = c.requires in
    let all : areas ≡ areas_of_faces arcs c.args.self.now.places c.args.self.now.count = ap (λ (t : FaceTable). t.areas) c.self.view_is ∙ built.areas_summed in
    let exact : area ≡ of_face f = read ∙ (λ i. get_or (all i) (c.num.ensures.exact i) area) ∙ get_or-map-range_with_len of_face 0 c.args.self.now.count f f area there (omega arith) in
    simp to_z-of_z exact
