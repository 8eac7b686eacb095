-- The text of a grid number, in parts: a sign, the whole part, and the fraction.
use Rattle.std.specs.Prelude.{ℕ, ◌+◌, ◌==◌, List, [], ◌∷◌, if◌then◌else◌}
use Rattle.grid_base.specs.Grid.{most_places}
use Rattle.numerals.specs.Decimal.{trimmed_digits}

-- the greatest number of digits in the whole part of a number of the grid
abbrev pub whole_digits : ℕ
whole_digits = 12

-- the greatest number of bytes of its text: these digits, those of the fraction, a sign and a point
abbrev pub number_width : ℕ
number_width = whole_digits + most_places + 2

-- a point and the digits of a fraction of 10 ^ places, without the zeros at their end; nothing where it is zero
abbrev pub fraction_text : ℕ → ℕ → List ℕ
fraction_text places n = if n == 0 then [] else 46 ∷ trimmed_digits places n
