-- Bounds on sums and products of integers, integers that fit 64 or 128 bits, and numbers that numbers of the grid make.
use Rattle.std.proofs.Common.{ℕ, ◌+◌, ◌*◌, ◌^◌, ◌≤◌, ◌<◌, arith, ℤ, pos, ◌+ℤ◌, ◌-ℤ◌, ◌*ℤ◌, unsigned_abs, FitsSigned, w64, lit<}
use Rattle.std.proofs.lemmas.Int.{ints, unsigned_abs-mul, fits_signed_from_abs}
use Rattle.std.proofs.lemmas.Nat.{mul-le}
use Rattle.std.specs.Int.{w128}
use Rattle.plane_model.specs.Points.{GridPoint}
use Rattle.grid_base.specs.Grid.{IsOnGrid, limit}
use Rattle.grid_base.specs.Sizes.{IsGridNumber, IsStep, IsCross, most_step, most_cross}

pub product_bound : (a b : ℤ) (m n : ℕ) → unsigned_abs a ≤ m → unsigned_abs b ≤ n → unsigned_abs (a *ℤ b) ≤ m * n
product_bound a b m n h k = omega (arith, unsigned_abs-mul a b, mul-le (unsigned_abs a) (unsigned_abs b) m n h k)

pub difference_bound : (a b : ℤ) (m n : ℕ) → unsigned_abs a ≤ m → unsigned_abs b ≤ n → unsigned_abs (a -ℤ b) ≤ m + n
difference_bound a b m n h k = omega (arith, ints)

pub sum_bound : (a b : ℤ) (m n : ℕ) → unsigned_abs a ≤ m → unsigned_abs b ≤ n → unsigned_abs (a +ℤ b) ≤ m + n
sum_bound a b m n h k = omega (arith, ints)

pub double_bound : (a : ℤ) (m : ℕ) → unsigned_abs a ≤ m → unsigned_abs (pos 2 *ℤ a) ≤ 2 * m
double_bound a m h = omega (arith, ints)

pub fits_128 : (z : ℤ) (m : ℕ) → unsigned_abs z ≤ m → m < 2 ^ 127 → FitsSigned w128 z
fits_128 z m h k = fits_signed_from_abs w128 z (omega arith)

pub fits_64 : (z : ℤ) (m : ℕ) → unsigned_abs z ≤ m → m < 2 ^ 63 → FitsSigned w64 z
fits_64 z m h k = fits_signed_from_abs w64 z (omega arith)

-- ## Numbers of the grid, steps and determinants

pub x_small : (p : GridPoint) → IsOnGrid p → IsGridNumber p.x
x_small p h = let l = h.x_low in let g = h.x_high in omega (arith, ints)

pub y_small : (p : GridPoint) → IsOnGrid p → IsGridNumber p.y
y_small p h = let l = h.y_low in let g = h.y_high in omega (arith, ints)

pub grid_number_fits : (v : ℤ) → IsGridNumber v → FitsSigned w64 v
grid_number_fits v h = fits_64 v limit h (lit< tt)

pub step_small : (a b : ℤ) → IsGridNumber a → IsGridNumber b → IsStep (b -ℤ a)
step_small a b h k = omega (arith, ints)

pub step_fits : (d : ℤ) → IsStep d → FitsSigned w64 d
step_fits d h = fits_64 d most_step h (lit< tt)

pub step_fits_128 : (d : ℤ) → IsStep d → FitsSigned w128 d
step_fits_128 d h = fits_128 d most_step h (lit< tt)

pub steps_product : (a b : ℤ) → IsStep a → IsStep b → unsigned_abs (a *ℤ b) ≤ most_step * most_step
steps_product a b h k = product_bound a b most_step most_step h k

pub steps_product_fits : (a b : ℤ) → IsStep a → IsStep b → FitsSigned w128 (a *ℤ b)
steps_product_fits a b h k = fits_128 (a *ℤ b) (most_step * most_step) (steps_product a b h k) (lit< tt)

pub cross_small : (a b c d : ℤ) → IsStep a → IsStep b → IsStep c → IsStep d → IsCross (a *ℤ d -ℤ b *ℤ c)
cross_small a b c d ha hb hc hd =
    difference_bound (a *ℤ d) (b *ℤ c) (most_step * most_step) (most_step * most_step) (steps_product a d ha hd) (steps_product b c hb hc)

pub cross_fits : (z : ℤ) → IsCross z → FitsSigned w128 z
cross_fits z h = fits_128 z most_cross h (lit< tt)
