use Rattle.std.proofs.Common.{◌≡◌, ◌∙◌, sym, ap, arith, ℕ, ◌*◌, ◌^◌, ◌≤◌, Bool, true, cond, ℤ, pos, ◌-ℤ◌, [], get_or, unsigned_abs, FitsSigned, to_z-of_z, lit<}
use Rattle.std.specs.Int.{w128}
use Rattle.plane_model.specs.Arcs.{points_of}
use Rattle.face_walk.specs.Areas.{area_along}
use Rattle.face_walk.specs.Areas.{most_triangle}
use Rattle.grid_base.proofs.Bounds.{difference_bound, fits_128}
use Rattle.face_walk.proofs.AreaLemmas.{area_of_signed}
use Rattle.face_walk.proofs.areas.area_of_arc.Goals as goal

pub returns-then-is_reversed-clause-exact : goal.returns-then-is_reversed-clause-exact
returns-then-is_reversed-clause-exact c =
    let arcs = c.args.t.now in
    let a = c.args.a in
    let area = c.area_along-area.result in
    let points = c.points_of-points.result.now in
    let small : unsigned_abs area ≤ 2 ^ 32 * most_triangle = c.area_along-area.ensures.small in
    let turned : unsigned_abs (pos 0 -ℤ area) ≤ 2 ^ 32 * most_triangle = (let d = difference_bound (pos 0) area 0 (2 ^ 32 * most_triangle) (omega arith) small in omega arith) in
    let f₁ : FitsSigned w128 area = fits_128 area (2 ^ 32 * most_triangle) small (lit< tt) in
    let f₂ : FitsSigned w128 (pos 0 -ℤ area) = fits_128 (pos 0 -ℤ area) (2 ^ 32 * most_triangle) turned (lit< tt) in
    let is : points ≡ get_or arcs a.arc [] = c.points_of-points.ensures.exact ∙ ap (λ (k : ℕ). get_or arcs k []) c.id.ensures.exact in
    let reversed : a.is_reversed ≡ true = sym c.is_reversed.ensures.exact ∙ c.if-is_reversed.true in
    let exact : pos 0 -ℤ area ≡ area_along (points_of arcs a) =
    ap (λ (b : ℤ). pos 0 -ℤ b) c.area_along-area.ensures.exact
    ∙ sym (area_of_signed arcs a points is ∙ ap (λ (b : Bool). cond b (pos 0 -ℤ area_along points) (area_along points)) reversed) in
    simp to_z-of_z exact
