-- Numerals in units of a power of ten: what a pass over the digits finds.
use Rattle.std.specs.Prelude.{ℕ, suc, ◌≡◌, ◌*◌, ◌/◌, ◌%◌, ◌^◌, Bool, true, false, not, ◌&&◌, ◌||◌, ◌==◌, nat_lt, min, ℤ, pos, negsuc, neg_ℤ, List, [], ◌∷◌, Option, Some, if◌then◌else◌}
use Rattle.numerals.specs.Bytes.{is_digit}
use Rattle.numerals.specs.Numeral.{Numeral, numeral_from}
use Rattle.numerals.specs.Units.{units_cap}
use Rattle.numerals.specs.declared.numerals.Scaled.{Scaled}
use Rattle.numerals.specs.declared.numerals.Shift.{Shift}
use Rattle.numerals.specs.declared.numerals.Shift.TheVariants.{Up, Down}

abbrev pub AreDigits : List ℕ → Type 0
AreDigits [] = Unit {0}
AreDigits (b ∷ bs) = (is_digit b ≡ true) × AreDigits bs

-- an exponent, counted no further than this either way
abbrev pub power_cap : ℕ
power_cap = 10 ^ 30

abbrev pub capped_power : ℤ → ℤ
capped_power (pos n) = pos (min n power_cap)
capped_power (negsuc n) = neg_ℤ (pos (min (suc n) power_cap))

-- such a count of some exponent
abbrev pub IsPower : ℤ → Type 0
IsPower p = (e : ℤ) × (p ≡ capped_power e)

-- n / 10^(k+1): its whole part, its first digit after that, and whether more follows
pub record IsCut (n k : ℕ) (r : Scaled) : Type 0 where
  pub units : r.units ≡ min (n / 10 ^ suc k) units_cap
  pub tenths : r.tenths ≡ n % 10 ^ suc k / 10 ^ k
  pub more : r.more ≡ not (n % 10 ^ k == 0)

-- n * 10^e
abbrev pub IsScaled : ℕ → ℤ → Scaled → Type 0
IsScaled n (pos e) r = (r.units ≡ min (n * 10 ^ e) units_cap) × (r.tenths ≡ 0) × (r.more ≡ false)
IsScaled n (negsuc k) r = IsCut n k r

-- a numeral has these parts
pub record IsRead (v : Option Numeral) (minus : Bool) (whole fraction : List ℕ) (power : ℤ) : Type 0 where
  pub exponent : ℤ
  pub power_is : power ≡ capped_power exponent
  pub numeral_is : v ≡ Some (numeral_from minus whole fraction exponent)
  pub whole_digits : AreDigits whole
  pub fraction_digits : AreDigits fraction

abbrev pub IsShift : ℤ → Shift → Type 0
IsShift z (Up n) = z ≡ pos n
IsShift z (Down n) = (k : ℕ) × (n ≡ suc k) × (z ≡ negsuc k)

-- what lies after the units rounds them up, where halves of a number go up
abbrev pub goes_up : Bool → Scaled → Bool
goes_up minus r = nat_lt 5 r.tenths || ((r.tenths == 5) && (r.more || not minus))

abbrev pub one_if : Bool → ℕ
one_if b = if b then 1 else 0
