-- Numerals by the number of their digits.
use Rattle.std.specs.Prelude.{ℕ, ℤ, Bool, ◌≡◌, ◌≤◌, ◌==◌, ◌||◌, pos, ◌+ℤ◌, ◌-ℤ◌, List, [], length, take, drop, Option, Some}
use Rattle.numerals.specs.Bytes.{is_digit, is_exponent_letter}
use Rattle.numerals.specs.Numeral.{Numeral, fraction_part, grid_of_text, number_onto, numeral_of, signed, unsigned_numeral}
use Rattle.numerals.specs.Bytes.{NextFails}
use Rattle.numerals.specs.Scaling.{IsScaled}
use Rattle.numerals.specs.declared.numerals.Scaled.{Scaled}
use Rattle.numerals.specs.declared.plain_numeral.Plain.{Plain}

-- the text is a point and `count` digits, or nothing; `number` is what these digits denote after those of n
pub record HasFraction (n : ℕ) (text : List ℕ) (number count : ℕ) : Type 0 where
  pub digits : List ℕ
  pub fraction_is : fraction_part text ≡ Some (digits, [])
  pub number_is : number ≡ number_onto n digits
  pub count_is : count ≡ length digits
  pub few : count ≤ 18

-- the numeral is the number of its digits, `p.fraction` of them after the point
pub record IsPlain (v : Option Numeral) (p : Plain) : Type 0 where
  pub numeral_is : v ≡ Some (record { mantissa = signed p.minus p.number; exponent = pos 0 -ℤ pos p.fraction })
  pub few : p.fraction ≤ 18

abbrev pub plain_numeral : Plain → Numeral
plain_numeral p = record { mantissa = signed p.minus p.number; exponent = pos 0 -ℤ pos p.fraction }

-- ## The same at the front of a text

-- a byte that may stand in a number after its first digit, but for a sign
abbrev pub is_numeric : ℕ → Bool
is_numeric b = is_digit b || (is_exponent_letter b || (b == 46))

-- of the first `size` bytes, after which no such byte stands
abbrev pub FrontFraction : ℕ → List ℕ → ℕ → ℕ → ℕ → Type 0
FrontFraction n text number count size = HasFraction n (take size text) number count × NextFails is_numeric (drop size text) × (size ≤ length text)

abbrev pub IsUnsignedFront : Bool → List ℕ → Plain → ℕ → Type 0
IsUnsignedFront minus text p size = IsPlain (unsigned_numeral minus (take size text)) p × NextFails is_numeric (drop size text) × (size ≤ length text)

abbrev pub IsPlainFront : List ℕ → Plain → ℕ → Type 0
IsPlainFront text p size = IsPlain (numeral_of (take size text)) p × NextFails is_numeric (drop size text) × (size ≤ length text)

-- the same of a numeral of any kind that has this grid number
abbrev pub IsGridFront : ℕ → List ℕ → ℤ → ℕ → Type 0
IsGridFront places text g size = (grid_of_text places (take size text) ≡ Some g) × NextFails is_numeric (drop size text) × (size ≤ length text)

-- ## The size of any numeral

-- the numeral has this sign, and this size in units of 10^-places
pub record IsSize (places : ℕ) (v : Option Numeral) (minus : Bool) (r : Scaled) : Type 0 where
  pub number : ℕ
  pub exponent : ℤ
  pub numeral_is : v ≡ Some (record { mantissa = signed minus number; exponent = exponent })
  pub scaled : IsScaled number (exponent +ℤ pos places) r
