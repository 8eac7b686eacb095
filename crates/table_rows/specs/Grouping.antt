-- A table with a row for each group of rows: the listed values, those of the first row, and sums.
use Rattle.std.specs.Prelude.{ℕ, ℤ, pos, ◌+ℤ◌, List, [], ◌∷◌, ◌++◌, map, fold, nat_lt, Result, Ok, Err, Option, Some, None, if◌then◌else◌}
use Rattle.std.specs.List.{flat_map}
use Rattle.numerals.specs.Decimal.{checked}
use Rattle.json_values.specs.Table.{TableContent, RowValues}
use Rattle.json_values.specs.declared.value.Value.{Value}
use Rattle.json_values.specs.declared.value.Value.TheVariants as is
use Rattle.table_terms.specs.Names.{Text, value_at, place_of}
use Rattle.table_rows.specs.Rows.{row_at, first_of, picked}
use Rattle.table_rows.specs.Columns.{cells}
use Rattle.table_rows.specs.Groups.{groups_of}
use Rattle.table_terms.specs.Refusals.{unless, first_refusal, on_ok}
use Rattle.table_rows.specs.Refusals.{refused_item}
use Rattle.table_terms.specs.declared.groupings.GroupSpec.{GroupSpec}
use Rattle.table_rows.specs.declared.group.Grouped.{Grouped}
use Rattle.table_rows.specs.declared.fault.TableWhy.{TableWhy}
use Rattle.table_rows.specs.declared.fault.TableWhy.TheVariants.{NotNumber, SumRange}

-- ---- sums

-- the sum after row n, where it is a decimal
abbrev pub sum_after : ℕ → Option ℤ → Result ℤ TableWhy
sum_after n (Some sum) = Ok sum
sum_after n None = Err (SumRange n)

-- a sum with the value of row n, where null counts as 0
abbrev pub sum_with : ℤ → ℕ → Value → Result ℤ TableWhy
sum_with total n is.Null = Ok total
sum_with total n (is.Num z) = sum_after n (checked (total +ℤ z))
sum_with total n v = Err (NotNumber n)

-- the sum at a place over the rows with these numbers, or the first of them that cannot be added
abbrev pub column_sum : List RowValues → ℕ → ℤ → List ℕ → Result ℤ TableWhy
column_sum rows place total [] = Ok total
column_sum rows place total (n ∷ ns) = on_ok (sum_with total n (value_at (row_at rows n) place)) (λ (sum : ℤ). column_sum rows place sum ns)

abbrev pub sum_or_zero : Result ℤ TableWhy → ℤ
sum_or_zero (Ok sum) = sum
sum_or_zero (Err why) = pos 0

-- ---- refusals: the one at the lowest row, and in a row that of the first column

abbrev pub refusal_of : Result ℤ TableWhy → Option TableWhy
refusal_of (Ok sum) = None
refusal_of (Err why) = Some why

abbrev pub refused_row : TableWhy → ℕ
refused_row (NotNumber n) = n
refused_row (SumRange n) = n
refused_row why = 0

abbrev pub lower : TableWhy → TableWhy → TableWhy
lower a b = if nat_lt (refused_row b) (refused_row a) then b else a

abbrev pub earlier : Option TableWhy → Option TableWhy → Option TableWhy
earlier None b = b
earlier (Some a) None = Some a
earlier (Some a) (Some b) = Some (lower a b)

abbrev pub refusals : List RowValues → List ℕ → List ℕ → List (Option TableWhy)
refusals rows places members = map (λ (place : ℕ). refusal_of (column_sum rows place (pos 0) members)) places

abbrev pub refused_sums : List RowValues → List ℕ → List (List ℕ) → Option TableWhy
refused_sums rows places groups = fold earlier None (flat_map (refusals rows places) groups)

-- ---- the table

abbrev pub sums : List RowValues → List ℕ → List ℕ → RowValues
sums rows places members = map (λ (place : ℕ). is.Num (sum_or_zero (column_sum rows place (pos 0) members))) places

-- the row of a group, by the places of the three lists of columns
abbrev pub group_row : List RowValues → List ℕ → List ℕ → List ℕ → List ℕ → RowValues
group_row rows by copied summed members = picked by (first_of rows members) ++ picked copied (first_of rows members) ++ sums rows summed members

abbrev pub field_places : TableContent → List Text → List ℕ
field_places t fields = map (place_of t.names) fields

-- the fields of the three lists, one list after the other
abbrev pub listed_fields : GroupSpec → List Text
listed_fields spec = spec.by ++ spec.copy ++ spec.sum

abbrev pub table_of_groups : TableContent → GroupSpec → List (List ℕ) → Grouped
table_of_groups t spec groups = record {
  groups = groups;
  table = record {
    names = listed_fields spec;
    rows = map (group_row t.rows (field_places t spec.by) (field_places t spec.copy) (field_places t spec.sum)) groups;
  };
}

abbrev pub groups_by : TableContent → List Text → List (List ℕ)
groups_by t fields = groups_of (map (cells t.names fields) t.rows)

abbrev pub group_rows : TableContent → GroupSpec → Result Grouped TableWhy
group_rows t spec =
    unless (first_refusal (refused_item t.names [] 0 (listed_fields spec)) (refused_sums t.rows (field_places t spec.sum) (groups_by t spec.by)))
    (Ok (table_of_groups t spec (groups_by t spec.by)))
