use Rattle.std.proofs.Common.{◌≡◌, ◌≤◌, ◌-◌, ◌^◌, ◌<ℤ◌, arith, rules, ℤ, pos, sym, subst, unsigned_abs, to_z, of_z, lit<}
use Rattle.std.specs.Int.{w128}
use Rattle.std.proofs.lemmas.Int.{ints}
use Rattle.std.proofs.Math.Nat.{pow-le-pow_right, one-le-pow}
use Rattle.grid_base.proofs.Bounds.{fits_128}
use Rattle.topo_io.proofs.frame.unit_of.Goals as goal

pub pow-requires : goal.pow-requires
pow-requires c =
    let shorter : 9 - c.args.places ≤ 9 = omega arith in
    let most : 10 ^ (9 - c.args.places) ≤ 10 ^ 9 = pow-le-pow_right (lit< tt) shorter in
    rw (c.from.ensures) (fits_128 (pos (10 ^ (9 - c.args.places))) (10 ^ 9) most (lit< tt))

pub returns-clause-positive : goal.returns-clause-positive
returns-clause-positive c =
    let e : to_z w128 (of_z w128 c.pow.result) ≡ pos (10 ^ (9 - c.args.places)) = search rules in
    let some = one-le-pow (9 - c.args.places) 10 (lit< tt) in
    subst (λ (z : ℤ). pos 0 <ℤ z) (sym e) (omega (arith, ints))

pub returns-clause-most : goal.returns-clause-most
returns-clause-most c =
    let e : to_z w128 (of_z w128 c.pow.result) ≡ pos (10 ^ (9 - c.args.places)) = search rules in
    let shorter : 9 - c.args.places ≤ 9 = omega arith in
    subst (λ (z : ℤ). unsigned_abs z ≤ 10 ^ 9) (sym e) (pow-le-pow_right (lit< tt) shorter)
