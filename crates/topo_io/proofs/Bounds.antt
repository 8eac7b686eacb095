-- Bounds on quotients.
use Rattle.std.proofs.Common.{ℕ, ◌/◌, ◌^◌, ◌≤◌, ◌<◌, arith, ℤ, pos, negsuc, unsigned_abs, lit<}
use Rattle.std.proofs.Math.Nat.{div-le_self, div-lt_iff_lt-mul}
use Rattle.std.specs.Int.{int_div_euclid}
use Rattle.topo_io.specs.Transform.{part}

small_quotient : (n : ℕ) → n < 10 ^ 37 → n / part < 10 ^ 18
small_quotient n h = (div-lt_iff_lt-mul (lit< tt)).1 h

-- a number of a transform has few parts
pub parts_bound : (z : ℤ) → unsigned_abs z < 10 ^ 37 → unsigned_abs (int_div_euclid z (pos part)) ≤ part
parts_bound (pos n) h = omega (arith, small_quotient n h)
parts_bound (negsuc n) h = omega (arith, small_quotient n (omega (arith, h)))

-- a quotient is not larger than what is divided
pub quotient_smaller : (z : ℤ) (d : ℕ) → unsigned_abs (int_div_euclid z (pos d)) ≤ unsigned_abs z
quotient_smaller (pos n) d = div-le_self n d
quotient_smaller (negsuc n) d = omega (arith, div-le_self n d)
