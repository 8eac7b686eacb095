use Rattle.std.proofs.Common.{◌≡◌, ◌∙◌, ◌-◌, ◌^◌, ◌<ℤ◌, arith, ℤ, pos, ◌+ℤ◌, ◌*ℤ◌, FitsSigned, to_z-of_z, lit<}
use Rattle.std.specs.Int.{w128, int_div_euclid}
use Rattle.std.proofs.lemmas.Int.{ints}
use Rattle.std.proofs.Math.Nat.{one-le-pow}
use Rattle.topo_io.specs.Transform.{part}
use Rattle.topo_io.proofs.PlaceLemmas.{parts_round, unit_is}
use Rattle.topo_io.proofs.frame.place_of.Goals as goal

pub returns : goal.returns
returns c =
    let k = c.args.places in
    let z : ℤ = c.args.number *ℤ c.args.scale +ℤ c.args.offset in
    let u : ℤ = pos (10 ^ (9 - k)) in
    let f₁ = c.ranges.number in
    let f₂ = c.ranges.scale in
    let f₃ = c.ranges.offset in
    let g₁ : FitsSigned w128 c.doubled.result = record { sfits = c.doubled.type_inv } in
    let g₂ : FitsSigned w128 c.unit_of.result = record { sfits = c.unit_of.type_inv } in
    let g₃ : FitsSigned w128 c.next_to.result = record { sfits = c.next_to.type_inv } in
    let d : c.doubled.result ≡ int_div_euclid (pos 2 *ℤ z) (pos part) = simp to_z-of_z at c.doubled.ensures.value in
    let e : c.unit_of.result ≡ u = c.unit_of.ensures.value in
    let n : c.next_to.result ≡ int_div_euclid (c.doubled.result +ℤ c.unit_of.result) (pos 2 *ℤ c.unit_of.result) = simp to_z-of_z at c.next_to.ensures.value in
    let some = one-le-pow (9 - k) 10 (lit< tt) in
    let positive : pos 0 <ℤ pos part = omega (arith, ints) in
    let all : c.next_to.result ≡ int_div_euclid (pos 2 *ℤ z +ℤ pos (10 ^ (28 - k))) (pos 2 *ℤ pos (10 ^ (28 - k))) =
    n
    ∙ (λ i. int_div_euclid (d i +ℤ e i) (pos 2 *ℤ e i))
    ∙ parts_round z (pos part) u positive (omega (arith, ints))
    ∙ (λ i. int_div_euclid (pos 2 *ℤ z +ℤ pos (unit_is k c.requires.places i)) (pos 2 *ℤ pos (unit_is k c.requires.places i))) in
    record { value = simp to_z-of_z all }
