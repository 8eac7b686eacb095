use Rattle.std.proofs.Common.{◌≡◌, ◌≤◌, sym, subst, ℤ, pos, unsigned_abs, FitsSigned, to_z-of_z}
use Rattle.std.specs.Int.{w128, int_div_euclid}
use Rattle.topo_io.specs.Transform.{part}
use Rattle.topo_io.proofs.Bounds.{parts_bound}
use Rattle.topo_io.proofs.frame.upper_of.Goals as goal

pub returns-clause-small : goal.returns-clause-small
returns-clause-small c =
    let f₁ = c.ranges.z in
    let f₂ : FitsSigned w128 c.div_euclid.result = record { sfits = c.div_euclid.type_inv } in
    let e : c.div_euclid.result ≡ int_div_euclid c.args.z (pos part) = simp to_z-of_z at c.div_euclid.ensures in
    let r : unsigned_abs c.div_euclid.result ≤ part = subst (λ (q : ℤ). unsigned_abs q ≤ part) (sym e) (parts_bound c.args.z c.requires.small) in
    simp to_z-of_z r
