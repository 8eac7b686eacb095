use Rattle.std.proofs.Common.{◌≡◌, ◌∙◌, sym, ap, arith, ◌+◌, ◌-◌, ◌*◌, ◌^◌, ◌<◌, ◌≤◌, ℤ, ◌+ℤ◌, length, get_or, take, unsigned_abs, FitsSigned, to_z, to_z-of_z, lit<}
use Rattle.std.specs.Int.{w128}
use Rattle.std.proofs.lemmas.List.{get_or_default}
use Rattle.face_walk.specs.Areas.{area_along}
use Rattle.face_walk.specs.Areas.{most_triangle}
use Rattle.grid_base.proofs.Bounds.{sum_bound, fits_128}
use Rattle.face_walk.proofs.AreaLemmas.{turn, area_taken}
use Rattle.face_walk.proofs.areas.area_along.Goals as goal

pub loop-i-preserved : goal.loop-i-preserved
loop-i-preserved c =
    let points = c.args.points.now in
    let i = c.loop-i.i in
    let area : ℤ = to_z w128 c.loop-i.area-bits in
    let more = c.triangle-area.result in
    let p = c.index-points-i.result in
    let q = c.index-points-i-in-loop-i.result in
    let l : i < length points = c.loop-i-test.true in
    let some : 1 ≤ i = c.loop-i.auto.i in
    let few = c.loop-i.invariant.1 in
    let within = c.requires.few in
    let bound : unsigned_abs area ≤ i * most_triangle = c.loop-i.invariant.0 in
    let small : unsigned_abs more ≤ most_triangle = c.triangle-area.ensures.small in
    let both : unsigned_abs (area +ℤ more) ≤ (i + 1) * most_triangle = (let s = sum_bound area more (i * most_triangle) most_triangle bound small in omega arith) in
    let next : i + 1 ≤ 4294967296 = omega arith in
    let f₁ : FitsSigned w128 more = fits_128 more most_triangle small (lit< tt) in
    let f₂ : FitsSigned w128 (area +ℤ more) = fits_128 (area +ℤ more) (2 ^ 32 * most_triangle) (omega arith) (lit< tt) in
    let first : p ≡ get_or points (i - 1) p = c.index-points-i.is in
    let second : q ≡ get_or points i p = c.index-points-i-in-loop-i.is ∙ get_or_default points i q p l in
    let exact : area +ℤ more ≡ area_along (take (i + 1) points) =
    ap (λ (a : ℤ). a +ℤ more) c.loop-i.invariant.2
    ∙ ap (λ (b : ℤ). area_along (take i points) +ℤ b) (c.triangle-area.ensures.value ∙ (λ j. turn (first j) (second j)))
    ∙ sym (area_taken points i p (omega arith) l) in
    simp to_z-of_z (both, next, exact)
