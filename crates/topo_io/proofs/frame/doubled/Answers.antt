use Rattle.std.proofs.Common.{◌≡◌, ◌∙◌, ◌*◌, ◌≤◌, ◌<ℤ◌, arith, pos, ◌+ℤ◌, ◌*ℤ◌, unsigned_abs, FitsSigned, to_z-of_z, lit<}
use Rattle.std.specs.Int.{w128, int_div_euclid, int_rem_euclid}
use Rattle.std.proofs.lemmas.Int.{ints}
use Rattle.grid_base.proofs.Bounds.{double_bound, fits_128, sum_bound}
use Rattle.topo_io.specs.Transform.{most_line, part}
use Rattle.topo_io.proofs.PlaceLemmas.{parts_below}
use Rattle.topo_io.proofs.frame.doubled.Goals as goal

pub overflow_mul-result : goal.overflow_mul-result
overflow_mul-result c =
    let f₁ : FitsSigned w128 c.line-upper.result = record { sfits = c.line-upper.type_inv } in
    let f₂ = fits_128 (pos 2 *ℤ c.line-upper.result) (2 * most_line) (double_bound c.line-upper.result most_line c.line-upper.ensures.small) (lit< tt) in
    simp to_z-of_z f₂

pub overflow_add-result : goal.overflow_add-result
overflow_add-result c =
    let f₁ : FitsSigned w128 c.line-upper.result = record { sfits = c.line-upper.type_inv } in
    let f₂ : FitsSigned w128 c.twice_upper_of.result = record { sfits = c.twice_upper_of.type_inv } in
    let twice = double_bound c.line-upper.result most_line c.line-upper.ensures.small in
    let f₃ = fits_128 (pos 2 *ℤ c.line-upper.result) (2 * most_line) twice (lit< tt) in
    let f₄ = fits_128 (pos 2 *ℤ c.line-upper.result +ℤ c.twice_upper_of.result) (4 * most_line) (sum_bound (pos 2 *ℤ c.line-upper.result) c.twice_upper_of.result (2 * most_line) (2 * most_line) twice c.twice_upper_of.ensures.small) (lit< tt) in
    simp to_z-of_z f₄

pub returns : goal.returns
returns c =
    let n = c.args.number in
    let s = c.args.scale in
    let o = c.args.offset in
    let p = pos part in
    let f₁ = c.ranges.number in
    let f₂ = c.ranges.scale in
    let f₃ = c.ranges.offset in
    let g₁ : FitsSigned w128 c.upper_of.result = record { sfits = c.upper_of.type_inv } in
    let g₂ : FitsSigned w128 c.upper_of-2.result = record { sfits = c.upper_of-2.type_inv } in
    let g₃ : FitsSigned w128 c.lower_of.result = record { sfits = c.lower_of.type_inv } in
    let g₄ : FitsSigned w128 c.lower_of-2.result = record { sfits = c.lower_of-2.type_inv } in
    let g₅ : FitsSigned w128 c.line-upper.result = record { sfits = c.line-upper.type_inv } in
    let g₆ : FitsSigned w128 c.line-lower.result = record { sfits = c.line-lower.type_inv } in
    let g₇ : FitsSigned w128 c.twice_upper_of.result = record { sfits = c.twice_upper_of.type_inv } in
    let twice = double_bound c.line-upper.result most_line c.line-upper.ensures.small in
    let g₈ = fits_128 (pos 2 *ℤ c.line-upper.result) (2 * most_line) twice (lit< tt) in
    let small : unsigned_abs (pos 2 *ℤ c.line-upper.result +ℤ c.twice_upper_of.result) ≤ 4 * most_line =
    sum_bound (pos 2 *ℤ c.line-upper.result) c.twice_upper_of.result (2 * most_line) (2 * most_line) twice c.twice_upper_of.ensures.small in
    let g₉ = fits_128 (pos 2 *ℤ c.line-upper.result +ℤ c.twice_upper_of.result) (4 * most_line) small (lit< tt) in
    let b₁ : c.upper_of.result ≡ int_div_euclid s p = simp to_z-of_z at c.upper_of.ensures.value in
    let b₂ : c.upper_of-2.result ≡ int_div_euclid o p = simp to_z-of_z at c.upper_of-2.ensures.value in
    let r₁ : c.lower_of.result ≡ int_rem_euclid s p = simp to_z-of_z at c.lower_of.ensures.value in
    let r₂ : c.lower_of-2.result ≡ int_rem_euclid o p = simp to_z-of_z at c.lower_of-2.ensures.value in
    let v : c.line-upper.result ≡ n *ℤ c.upper_of.result +ℤ c.upper_of-2.result = simp to_z-of_z at c.line-upper.ensures.value in
    let w : c.line-lower.result ≡ n *ℤ c.lower_of.result +ℤ c.lower_of-2.result = simp to_z-of_z at c.line-lower.ensures.value in
    let q : c.twice_upper_of.result ≡ int_div_euclid (pos 2 *ℤ c.line-lower.result) p = simp to_z-of_z at c.twice_upper_of.ensures.value in
    let positive : pos 0 <ℤ p = omega (arith, ints) in
    let all : pos 2 *ℤ c.line-upper.result +ℤ c.twice_upper_of.result ≡ int_div_euclid (pos 2 *ℤ (n *ℤ s +ℤ o)) p =
    (λ i. pos 2 *ℤ v i +ℤ q i)
    ∙ (λ i. pos 2 *ℤ (n *ℤ b₁ i +ℤ b₂ i) +ℤ int_div_euclid (pos 2 *ℤ w i) p)
    ∙ (λ i. pos 2 *ℤ (n *ℤ int_div_euclid s p +ℤ int_div_euclid o p) +ℤ int_div_euclid (pos 2 *ℤ (n *ℤ r₁ i +ℤ r₂ i)) p)
    ∙ parts_below n s o p positive in
    simp to_z-of_z (record { value = all; small = small })
