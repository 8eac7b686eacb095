-- A join of rows that are matched already: each row of the target takes fields of its first matching source row, and
-- counts and sums of all of them.
use Rattle.std.specs.Prelude.{ℕ, ◌+◌, Bool, false, not, nat_eq, ℤ, pos, List, [], ◌∷◌, ◌++◌, map, filter, length, Result, Ok, Option, Some, None, unwrap_or, if◌then◌else◌}
use Rattle.std.specs.List.{zip}
use Rattle.lists.specs.Lists.{has}
use Rattle.numerals.specs.Decimal.{of_grid}
use Rattle.json_values.specs.Table.{TableContent, RowValues}
use Rattle.json_values.specs.declared.value.Value.TheVariants as is
use Rattle.table_terms.specs.Names.{Text, has_name, place_of}
use Rattle.table_terms.specs.Refusals.{unless, first_refusal, on_ok}
use Rattle.join_terms.specs.declared.calculations.Calc.{Calc}
use Rattle.join_terms.specs.declared.calculations.Calc.TheVariants.{Count, Sum}
use Rattle.join_terms.specs.declared.calculations.CalcSpec.{CalcSpec}
use Rattle.join_terms.specs.declared.joins.JoinSpec.{JoinSpec}
use Rattle.table_rows.specs.Grouping.{column_sum}
use Rattle.table_ops.specs.Join.{candidates, copied_name, joined_row, new_fields}
use Rattle.table_rows.specs.Refusals.{refused_item}
use Rattle.table_rows.specs.Rows.{first_row}
use Rattle.table_rows.specs.declared.fault.TableWhy.{TableWhy}
use Rattle.table_rows.specs.declared.fault.TableWhy.TheVariants.{NoField, FieldTwice}

-- ---- columns

-- the copied fields are the listed ones, else all of the source
abbrev pub copied_fields : List Text → CalcSpec → List Text
copied_fields source spec = unwrap_or spec.fields source

-- their columns are those of a join by keys with these fields
abbrev pub as_join : List Text → CalcSpec → JoinSpec
as_join source spec = record { target_key = []; source_key = []; fields = Some (copied_fields source spec); force = spec.force; test = spec.test; prefix = spec.prefix }

abbrev pub copied_names : List Text → CalcSpec → List Text
copied_names source spec = map (copied_name (as_join source spec)) (copied_fields source spec)

abbrev pub new_names : List Text → List Text → CalcSpec → List Text
new_names target source spec = map (copied_name (as_join source spec)) (new_fields target source (as_join source spec))

abbrev pub calc_name : Calc → Text
calc_name (Count name) = name
calc_name (Sum name field) = name

-- the calculated columns stand last
abbrev pub joined_names : List Text → List Text → CalcSpec → List Text
joined_names target source spec = target ++ new_names target source spec ++ map calc_name spec.calc

-- ---- refusals of items

abbrev pub lacks_field : List Text → Calc → Bool
lacks_field source (Count name) = false
lacks_field source (Sum name field) = not (has_name source field)

-- the first refusal among calculations from number n on: of a field that the source lacks, or of a name that stands
-- earlier
abbrev pub refused_calc : List Text → List Text → ℕ → List Calc → Option TableWhy
refused_calc source earlier n [] = None
refused_calc source earlier n (c ∷ rest) =
    if lacks_field source c then Some (NoField n)
    else (if has_name earlier (calc_name c) then Some (FieldTwice n)
    else refused_calc source (earlier ++ calc_name c ∷ []) (n + 1) rest)

-- the listed fields, and then the calculations, whose names are those of no column of the target and of no copied field
abbrev pub refused_items : List Text → List Text → CalcSpec → Option TableWhy
refused_items target source spec =
    first_refusal (refused_item source [] 0 (unwrap_or spec.fields []))
    (refused_calc source (target ++ copied_names source spec) (length (unwrap_or spec.fields [])) spec.calc)

-- ---- rows

-- the answers for all items, or the first refusal
abbrev pub each_ok : {A B : Type 0} → (A → Result B TableWhy) → List A → Result (List B) TableWhy
each_ok f [] = Ok []
each_ok f (x ∷ xs) = on_ok (f x) (λ y. on_ok (each_ok f xs) (λ ys. Ok (y ∷ ys)))

-- of the rows with these numbers: how many they are, or the sum of a field, or the first of them that cannot be added
abbrev pub calculated : TableContent → List ℕ → Calc → Result ℤ TableWhy
calculated source matched (Count name) = Ok (of_grid (pos (length matched)) 0)
calculated source matched (Sum name field) = column_sum source.rows (place_of source.names field) (pos 0) matched

-- a row of the target with the fields of the first of its matches, and what is calculated of all of them
abbrev pub calc_row : TableContent → TableContent → CalcSpec → RowValues → List ℕ → Result RowValues TableWhy
calc_row target source spec row matched =
    on_ok (each_ok (calculated source matched) spec.calc)
    (λ (numbers : List ℤ). Ok (joined_row target.names source.names (as_join source.names spec) row (first_row source.rows matched) ++ map is.Num numbers))

-- those of the remaining rows that match, in their order
abbrev pub matching : List ℕ → List ℕ → List ℕ
matching remaining matched = filter (has nat_eq matched) remaining

abbrev pub calc_rows : TableContent → TableContent → List (List ℕ) → CalcSpec → List ℕ → Result (List RowValues) TableWhy
calc_rows target source matches spec remaining =
    each_ok (λ (p : RowValues × List ℕ). calc_row target source spec p.0 (matching remaining p.1)) (zip target.rows matches)

abbrev pub joined_table : TableContent → TableContent → List (List ℕ) → CalcSpec → List ℕ → Result TableContent TableWhy
joined_table target source matches spec remaining =
    on_ok (calc_rows target source matches spec remaining) (λ (rows : List RowValues). Ok (record { names = joined_names target.names source.names spec; rows = rows }))

abbrev pub join_matched : TableContent → TableContent → List (List ℕ) → CalcSpec → Result TableContent TableWhy
join_matched target source matches spec =
    unless (refused_items target.names source.names spec) (on_ok (candidates source spec.test) (joined_table target source matches spec))
