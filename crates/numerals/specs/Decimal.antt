-- Decimals: whole multiples of 10^-18 below 10^18. A decimal is kept as that whole number, its units.
use Rattle.std.specs.Prelude.{ℕ, zero, suc, ◌+◌, ◌-◌, ◌/◌, ◌%◌, ◌^◌, Bool, true, false, ◌==◌, nat_lt, ℤ, pos, negsuc, ◌*ℤ◌, neg_ℤ, unsigned_abs, List, [], ◌∷◌, ◌++◌, decimal, Option, Some, None, if◌then◌else◌}
use Rattle.numerals.specs.Numeral.{numeral_of}
use Rattle.numerals.specs.Units.{exactly, units_at}

abbrev pub is_decimal : ℤ → Bool
is_decimal units = nat_lt (unsigned_abs units) (10 ^ 36)

abbrev pub checked : ℤ → Option ℤ
checked units = if is_decimal units then Some units else None

abbrev pub checked_where : Option ℤ → Option ℤ
checked_where None = None
checked_where (Some z) = checked z

-- of a product of units: a multiple of 10^18, divided by it
abbrev pub checked_product : ℤ → Option ℤ
checked_product z = checked_where (exactly z (10 ^ 18))

-- the decimal that a text denotes, where it is a numeral with such a value
unfoldable pub decimal_of_text : List ℕ → Option ℤ
decimal_of_text text = checked_where (units_at 18 (numeral_of text))

-- the decimal g / 10 ^ places, for places up to 18
abbrev pub of_grid : ℤ → ℕ → ℤ
of_grid g places = g *ℤ pos (10 ^ (18 - places))

-- ## Its text

abbrev pub is_negative : ℤ → Bool
is_negative (pos n) = false
is_negative (negsuc n) = true

-- the integer of this size and sign
abbrev pub of_size : ℕ → Bool → ℤ
of_size n negative = if negative then neg_ℤ (pos n) else pos n

-- the last k digits of a number
unfoldable pub last_digits : ℕ → ℕ → List ℕ
last_digits zero n = []
last_digits (suc k) n = last_digits k (n / 10) ++ (48 + n % 10) ∷ []

-- the same, without the zeros at the end
unfoldable pub trimmed_digits : ℕ → ℕ → List ℕ
trimmed_digits zero n = []
trimmed_digits (suc k) n = if n % 10 == 0 then trimmed_digits k (n / 10) else last_digits (suc k) n

unfoldable pub fraction_text : ℕ → List ℕ
fraction_text n = if n == 0 then [] else 46 ∷ trimmed_digits 18 n

abbrev pub sign_text : Bool → List ℕ
sign_text negative = if negative then 45 ∷ [] else []

-- a minus where it is negative, the whole part, and the fraction where it is not whole
unfoldable pub decimal_text : ℤ → List ℕ
decimal_text units =
    sign_text (is_negative units) ++ decimal (unsigned_abs units / 10 ^ 18) ++ fraction_text (unsigned_abs units % 10 ^ 18)
