-- Cells of comma-separated text: plain decimals, and the values that cells stand for.
use Rattle.std.specs.Prelude.{ℕ, ◌==◌, Bool, true, false, ◌&&◌, ℤ, neg_ℤ, List, [], ◌∷◌, length, slice_index_or, Option, Some, None, option_map, if◌then◌else◌}
use Rattle.numerals.specs.Bytes.{is_digit}
use Rattle.numerals.specs.Numeral.{digits_at, after_digits, is_some_digits}
use Rattle.numerals.specs.Decimal.{decimal_of_text}
use Rattle.json_values.specs.declared.value.Value.{Value}
use Rattle.json_values.specs.declared.value.Value.TheVariants as is
use Rattle.table_terms.specs.Names.{Text}

-- nothing, or a point and digits up to the end
abbrev pub is_plain_end : Text → Bool
is_plain_end [] = true
is_plain_end (b ∷ rest) = (b == 46) && is_some_digits (digits_at rest) && (length (digits_at rest) == length rest)

-- digits, and then nothing or a point and digits
abbrev pub is_plain : Text → Bool
is_plain text = is_some_digits (digits_at text) && is_plain_end (after_digits text)

-- a zero stands in front of another digit
abbrev pub has_idle_zero : Text → Bool
has_idle_zero [] = false
has_idle_zero (b ∷ []) = false
has_idle_zero (b ∷ c ∷ rest) = (b == 48) && is_digit c

-- without the zeros in front of another digit
abbrev pub without_zeros : Text → Text
without_zeros [] = []
without_zeros (b ∷ rest) = if has_idle_zero (b ∷ rest) then without_zeros rest else b ∷ rest

abbrev pub plain_size : Text → Option ℤ
plain_size text = if is_plain text then decimal_of_text (without_zeros text) else None

-- the decimal of a cell: a minus that may be absent, digits, and then nothing or a point and digits
abbrev pub plain_decimal : Text → Option ℤ
plain_decimal [] = None
plain_decimal (b ∷ rest) = if b == 45 then option_map neg_ℤ (plain_size rest) else plain_size (b ∷ rest)

abbrev pub is_empty_cell : Text → Bool
is_empty_cell cell = length cell == 0

abbrev pub number_or_null : Option ℤ → Value
number_or_null None = is.Null
number_or_null (Some units) = is.Num units

-- in a column of numbers a number, or null where the cell is empty; in another the text
abbrev pub cell_value : Bool → Text → Value
cell_value true cell = number_or_null (plain_decimal cell)
cell_value false cell = is.Text cell

-- the cell of a record in a column
abbrev pub cell_at : List Text → ℕ → Text
cell_at record_cells column = slice_index_or record_cells column []
