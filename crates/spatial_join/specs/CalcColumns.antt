-- The rows of a join of matched rows by places: the values of their columns.
use Rattle.std.specs.Prelude.{ℕ, ℤ, pos, List, ◌++◌, map, length, Result, Ok, Option, Some, None}
use Rattle.numerals.specs.Decimal.{of_grid}
use Rattle.json_values.specs.Table.{RowValues}
use Rattle.json_values.specs.declared.value.Value.TheVariants as is
use Rattle.table_terms.specs.Names.{Text, place_of}
use Rattle.table_terms.specs.Refusals.{on_ok}
use Rattle.join_terms.specs.declared.calculations.Calc.{Calc}
use Rattle.join_terms.specs.declared.calculations.Calc.TheVariants.{Count, Sum}
use Rattle.table_rows.specs.Grouping.{column_sum}
use Rattle.table_ops.specs.JoinColumns.{column_value}
use Rattle.table_ops.specs.declared.join_columns.Column.{Column}
use Rattle.table_rows.specs.declared.fault.TableWhy.{TableWhy}
use Rattle.table_rows.specs.Rows.{first_row}
use Rattle.spatial_join.specs.Joined.{each_ok, matching}

-- ---- calculated columns

-- the place of the field that is summed, and none for a count
abbrev pub summed_place : List Text → Calc → Option ℕ
summed_place source (Count name) = None
summed_place source (Sum name field) = Some (place_of source field)

abbrev pub calculated_at : List RowValues → List ℕ → Option ℕ → Result ℤ TableWhy
calculated_at rows matched None = Ok (of_grid (pos (length matched)) 0)
calculated_at rows matched (Some place) = column_sum rows place (pos 0) matched

-- ---- rows

-- values, followed by the calculated ones
abbrev pub with_sums : RowValues → List RowValues → List ℕ → List (Option ℕ) → Result RowValues TableWhy
with_sums cells rows matched sums = on_ok (each_ok (calculated_at rows matched) sums) (λ (numbers : List ℤ). Ok (cells ++ map is.Num numbers))

abbrev pub row_by_places : List RowValues → List Column → List (Option ℕ) → RowValues → List ℕ → Result RowValues TableWhy
row_by_places rows columns sums row matched = with_sums (map (column_value row (first_row rows matched)) columns) rows matched sums

-- target rows, each with the source rows that match it, of which some remain
abbrev pub rows_by_places : List RowValues → List Column → List (Option ℕ) → List ℕ → List (RowValues × List ℕ) → Result (List RowValues) TableWhy
rows_by_places rows columns sums remaining targets = each_ok (λ (p : RowValues × List ℕ). row_by_places rows columns sums p.0 (matching remaining p.1)) targets
