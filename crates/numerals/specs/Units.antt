-- Numerals as whole numbers of units of a power of ten (RFC 8259, section 6).
use Rattle.std.specs.Prelude.{ℕ, suc, ◌/◌, ◌%◌, ◌^◌, ◌==◌, min, ℤ, pos, negsuc, ◌+ℤ◌, ◌*ℤ◌, neg_ℤ, unsigned_abs, List, Option, Some, None, if◌then◌else◌}
use Rattle.numerals.specs.Numeral.{Numeral, numeral_of}

-- an integer divided by d, towards zero
abbrev pub parted : ℤ → ℕ → ℤ
parted (pos n) d = pos (n / d)
parted (negsuc n) d = neg_ℤ (pos (suc n / d))

-- an integer divided by d, where it is a multiple of it
abbrev pub exactly : ℤ → ℕ → Option ℤ
exactly z d = if unsigned_abs z % d == 0 then Some (parted z d) else None

-- m * 10 ^ e, where it is a whole number
abbrev pub whole_of : ℤ → ℤ → Option ℤ
whole_of m (pos e) = Some (m *ℤ pos (10 ^ e))
whole_of m (negsuc e) = exactly m (10 ^ suc e)

-- how many units of 10 ^ -places a numeral is, where it is a whole number of them
abbrev pub units_at : ℕ → Option Numeral → Option ℤ
units_at places None = None
units_at places (Some v) = whole_of v.mantissa (v.exponent +ℤ pos places)

-- the same of a text, where it is a numeral
unfoldable pub units_of_text : ℕ → List ℕ → Option ℤ
units_of_text places text = units_at places (numeral_of text)

-- ## Numbers that are counted no further than 10^37, either way

abbrev pub units_cap : ℕ
units_cap = 10 ^ 37

abbrev pub counted : ℤ → ℤ
counted (pos n) = pos (min n units_cap)
counted (negsuc n) = neg_ℤ (pos (min (suc n) units_cap))
