use Rattle.std.proofs.Common.{◌≡◌, ◌*◌, ◌+◌, ◌^◌, pos, ◌+ℤ◌, ◌*ℤ◌, FitsSigned, to_z-of_z, lit<}
use Rattle.std.specs.Int.{w128, int_div_euclid}
use Rattle.grid_base.proofs.Bounds.{double_bound, fits_128, sum_bound}
use Rattle.topo_io.specs.Transform.{most_line}
use Rattle.topo_io.proofs.frame.next_to.Goals as goal

pub returns : goal.returns
returns c =
    let z = c.args.z in
    let u = c.args.unit in
    let f₁ = c.ranges.z in
    let f₂ = c.ranges.unit in
    let f₃ = fits_128 (z +ℤ u) (4 * most_line + 10 ^ 9) (sum_bound z u (4 * most_line) (10 ^ 9) c.requires.small c.requires.most) (lit< tt) in
    let f₄ = fits_128 (pos 2 *ℤ u) (2 * 10 ^ 9) (double_bound u (10 ^ 9) c.requires.most) (lit< tt) in
    let f₅ : FitsSigned w128 c.div_euclid.result = record { sfits = c.div_euclid.type_inv } in
    let e : c.div_euclid.result ≡ int_div_euclid (z +ℤ u) (pos 2 *ℤ u) = simp to_z-of_z at c.div_euclid.ensures in
    record { value = simp to_z-of_z e }
