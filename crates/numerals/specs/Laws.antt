-- Laws of numerals, and of the texts of decimals and grid numbers.
use Rattle.std.specs.Prelude.{ℕ, ◌≡◌, ◌≤◌, List, ◌<◌, ◌^◌, ℤ, Some, unsigned_abs}
use Rattle.numerals.specs.Numbers.{Number}
use Rattle.grid_bounds.specs.Bounds.{limit}
use Rattle.numerals.specs.Numeral.{IsNumeral, grid_of_text}
use Rattle.numerals.specs.Decimal.{decimal_of_text, decimal_text, of_grid}

-- the numbers of the grammar are the texts that have a value as numerals
abbrev pub NumbersAreNumerals : Type 0
NumbersAreNumerals = (t : List ℕ) → (Number t → IsNumeral t) × (IsNumeral t → Number t)

-- the printed text of a decimal denotes that decimal
abbrev pub DecimalsReadBack : Type 0
DecimalsReadBack = (units : ℤ) → unsigned_abs units < 10 ^ 36 → decimal_of_text (decimal_text units) ≡ Some units

-- the printed text of a grid number has that grid number
abbrev pub GridNumbersReadBack : Type 0
GridNumbersReadBack = (g : ℤ) (places : ℕ) → places ≤ 18 → unsigned_abs g ≤ limit → grid_of_text places (decimal_text (of_grid g places)) ≡ Some g
