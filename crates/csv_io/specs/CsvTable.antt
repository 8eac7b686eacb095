-- The table of comma-separated text (RFC 4180), by the records that `csv` reads.
use Rattle.std.specs.Prelude.{◌≡◌, ℕ, ◌+◌, ◌==◌, Bool, not, ◌&&◌, ◌||◌, List, [], ◌∷◌, ◌++◌, map, length, Result, Ok, Err, Option, Some, None, is_some, if◌then◌else◌, IsUtf8}
use Rattle.std.specs.List.{list_all, list_any}
use Rattle.csv.specs.Reading.{default_config, records, strip_bom}
use Rattle.json_values.specs.Table.{TableContent, RowValues}
use Rattle.table_terms.specs.Names.{Text, has_name}
use Rattle.table_terms.specs.Refusals.{unless, first_refusal}
use Rattle.csv_io.specs.CsvCells.{cell_at, cell_value, is_empty_cell, plain_decimal}
use Rattle.csv_io.specs.CsvUtf8.{EndsUtf8At}
use Rattle.csv_io.specs.declared.fault.CsvFault.{CsvFault}
use Rattle.csv_io.specs.declared.fault.CsvFault.TheVariants.{Utf8, NoHeader, RepeatedName, TooManyRows, UnequalRow, Memory}

-- the cells of a record
abbrev pub Cells : Type 0
Cells = List Text

-- ## Columns

abbrev pub column_cells : List Cells → ℕ → List Text
column_cells rows column = map (λ (row : Cells). cell_at row column) rows

abbrev pub is_number_or_empty : Text → Bool
is_number_or_empty cell = is_empty_cell cell || is_some (plain_decimal cell)

-- some cell is not empty, and each such cell is a plain decimal
abbrev pub has_numbers : List Text → Bool
has_numbers cells = list_any (λ (cell : Text). not (is_empty_cell cell)) cells && list_all is_number_or_empty cells

-- not listed as a column of texts, and with numbers
abbrev pub is_number_column : List Text → List Cells → ℕ → Text → Bool
is_number_column texts rows column name = not (has_name texts name) && has_numbers (column_cells rows column)

-- a function of each element and its number, the first of which is n
abbrev pub numbered : {A B : Type 0} → (ℕ → A → B) → ℕ → List A → List B
numbered f n [] = []
numbered f n (x ∷ xs) = f n x ∷ numbered f (n + 1) xs

abbrev pub number_columns : List Text → List Text → List Cells → List Bool
number_columns texts names rows = numbered (is_number_column texts rows) 0 names

abbrev pub row_values : List Bool → Cells → RowValues
row_values numbers row = numbered (λ (column : ℕ) (is_number : Bool). cell_value is_number (cell_at row column)) 0 numbers

abbrev pub table_under : List Text → List Text → List Cells → TableContent
table_under texts names rows = record { names = names; rows = map (row_values (number_columns texts names rows)) rows }

-- ## Faults

-- the first column, from number n on, whose name stands among the earlier ones
abbrev pub repeated_column : List Text → ℕ → List Text → Option CsvFault
repeated_column earlier n [] = None
repeated_column earlier n (name ∷ rest) = if has_name earlier name then Some (RepeatedName n) else repeated_column (earlier ++ name ∷ []) (n + 1) rest

-- row by row, from number n on: past the room, or with another number of cells than the header
abbrev pub refused_row : ℕ → ℕ → ℕ → List Cells → Option CsvFault
refused_row room width n [] = None
refused_row room width n (row ∷ rest) =
    if n == room then Some (TooManyRows n) else (if length row == width then refused_row room width (n + 1) rest else Some (UnequalRow n))

abbrev pub refused_records : ℕ → List Text → List Cells → Option CsvFault
refused_records room names rows = first_refusal (repeated_column [] 0 names) (refused_row room (length names) 0 rows)

-- the table of records, of which the first has the names, with room for `room` rows
abbrev pub table_of_records : List Text → ℕ → List Cells → Result TableContent CsvFault
table_of_records texts room [] = Err NoHeader
table_of_records texts room (names ∷ rows) = unless (refused_records room names rows) (Ok (table_under texts names rows))

-- ## What a call may give, where memory is not wanting

-- a test of records finds just this fault
abbrev pub Finds : {T : Type 0} → Result T CsvFault → Option CsvFault → Type 0
Finds (Ok v) wanted = wanted ≡ None
Finds (Err (Utf8 at)) wanted = ⊥
Finds (Err NoHeader) wanted = wanted ≡ Some NoHeader
Finds (Err (RepeatedName column)) wanted = wanted ≡ Some (RepeatedName column)
Finds (Err (TooManyRows row)) wanted = wanted ≡ Some (TooManyRows row)
Finds (Err (UnequalRow row)) wanted = wanted ≡ Some (UnequalRow row)
Finds (Err Memory) wanted = Unit {0}

-- a reading of records gives just this answer or fault
abbrev pub Gives : {T : Type 0} → Result T CsvFault → Result T CsvFault → Type 0
Gives (Ok v) wanted = wanted ≡ Ok v
Gives (Err (Utf8 at)) wanted = ⊥
Gives (Err NoHeader) wanted = wanted ≡ Err NoHeader
Gives (Err (RepeatedName column)) wanted = wanted ≡ Err (RepeatedName column)
Gives (Err (TooManyRows row)) wanted = wanted ≡ Err (TooManyRows row)
Gives (Err (UnequalRow row)) wanted = wanted ≡ Err (UnequalRow row)
Gives (Err Memory) wanted = Unit {0}

-- ## Texts

abbrev pub table_of_text : List Text → ℕ → Text → Result TableContent CsvFault
table_of_text texts room bytes = table_of_records texts room (records default_config (strip_bom bytes))

-- a reading of bytes tells where they stop to begin a UTF-8 text, or it gives the table of their records or its fault
abbrev pub ReadsText : List Text → ℕ → Text → Result TableContent CsvFault → Type 0
ReadsText texts room bytes (Ok t) = IsUtf8 bytes × (table_of_text texts room bytes ≡ Ok t)
ReadsText texts room bytes (Err (Utf8 at)) = EndsUtf8At bytes at
ReadsText texts room bytes (Err NoHeader) = IsUtf8 bytes × (table_of_text texts room bytes ≡ Err NoHeader)
ReadsText texts room bytes (Err (RepeatedName column)) = IsUtf8 bytes × (table_of_text texts room bytes ≡ Err (RepeatedName column))
ReadsText texts room bytes (Err (TooManyRows row)) = IsUtf8 bytes × (table_of_text texts room bytes ≡ Err (TooManyRows row))
ReadsText texts room bytes (Err (UnequalRow row)) = IsUtf8 bytes × (table_of_text texts room bytes ≡ Err (UnequalRow row))
ReadsText texts room bytes (Err Memory) = Unit {0}
