-- Counts in decimal digits, and areas in squared units of the coordinates.
use Rattle.std.specs.Prelude.{ℕ, ◌+◌, ◌-◌, ◌*◌, ◌/◌, ◌^◌, ℤ, pos, negsuc, ◌&&◌, nat_lt, nat_le, length, Option, Some, None, option_map, option_and_then, if◌then◌else◌}
use Rattle.std.specs.Str.{all_ascii_digits}
use Rattle.std.specs.Str.Parse.{digits_value}
use Rattle.numerals.specs.Decimal.{decimal_of_text}
use Rattle.cmd_words.specs.Rows.{Text}

-- decimal digits for a number within bounds
abbrev pub number_in : ℕ → ℕ → Text → Option ℕ
number_in low high w =
    if (nat_lt 0 (length w) && all_ascii_digits w) && (nat_le low (digits_value 10 w) && nat_le (digits_value 10 w) high) then Some (digits_value 10 w) else None

-- a count, from the least one on
abbrev pub count_of : ℕ → Text → Option ℕ
count_of low w = number_in low 4294967295 w

-- ## Areas

abbrev pub units_from_zero : ℤ → Option ℕ
units_from_zero (pos n) = Some n
units_from_zero (negsuc n) = None

-- an area of at least 0, in units of 10^-18
unfoldable pub area_units : Text → Option ℕ
area_units s = option_and_then units_from_zero (decimal_of_text s)

-- how many of these units a square of the grid is, for up to 9 decimal places
abbrev pub square_unit : ℕ → ℕ
square_unit places = 10 ^ (18 - 2 * places)

-- twice an area in squares of the grid, rounded down, and rounded up
unfoldable pub doubled_below : ℕ → ℕ → ℕ
doubled_below places units = (2 * units) / square_unit places

unfoldable pub doubled_above : ℕ → ℕ → ℕ
doubled_above places units = (2 * units + (square_unit places - 1)) / square_unit places

-- the number of the greatest gap that is filled, and that of the least area that stays
abbrev pub gap_of : ℕ → Text → Option ℕ
gap_of places s = option_map (doubled_below places) (area_units s)

abbrev pub least_area_of : ℕ → Text → Option ℕ
least_area_of places s = option_map (doubled_above places) (area_units s)
