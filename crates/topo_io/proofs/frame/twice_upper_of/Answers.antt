use Rattle.std.proofs.Common.{◌≡◌, ◌*◌, ◌≤◌, arith, sym, subst, ℤ, pos, ◌*ℤ◌, unsigned_abs, FitsSigned, to_z-of_z, lit<}
use Rattle.std.specs.Int.{w128, int_div_euclid}
use Rattle.grid_base.proofs.Bounds.{double_bound, fits_128}
use Rattle.topo_io.specs.Transform.{most_line, part}
use Rattle.topo_io.proofs.Bounds.{quotient_smaller}
use Rattle.topo_io.proofs.frame.twice_upper_of.Goals as goal

pub returns : goal.returns
returns c =
    let z = c.args.z in
    let f₁ = c.ranges.z in
    let twice = double_bound z most_line c.requires.small in
    let f₂ = fits_128 (pos 2 *ℤ z) (2 * most_line) twice (lit< tt) in
    let f₃ : FitsSigned w128 c.div_euclid.result = record { sfits = c.div_euclid.type_inv } in
    let e : c.div_euclid.result ≡ int_div_euclid (pos 2 *ℤ z) (pos part) = simp to_z-of_z at c.div_euclid.ensures in
    let smaller = quotient_smaller (pos 2 *ℤ z) part in
    let small : unsigned_abs c.div_euclid.result ≤ 2 * most_line = subst (λ (q : ℤ). unsigned_abs q ≤ 2 * most_line) (sym e) (omega (arith, smaller, twice)) in
    simp to_z-of_z (record { value = e; small = small })
