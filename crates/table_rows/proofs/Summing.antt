-- Rows of groups have a value for each column.
use Rattle.std.proofs.Common.{◌≡◌, ℕ, ◌+◌, List, [], ◌∷◌, ◌++◌, map, length, ◌∙◌, length-append}
use Rattle.std.specs.Prelude.{pos}
use Rattle.std.proofs.lemmas.List.{length-map}
use Rattle.json_values.specs.Table.{RowValues, AreRows}
use Rattle.json_values.specs.declared.value.Value.TheVariants as is
use Rattle.table_terms.specs.Names.{value_at}
use Rattle.table_rows.specs.Rows.{first_of, picked}
use Rattle.table_rows.specs.Grouping.{column_sum, sum_or_zero, sums, group_row}

row_long : (rows : List RowValues) (by copied summed members : List ℕ) → length (group_row rows by copied summed members) ≡ length by + length copied + length summed
row_long rows by copied summed members =
    let first : RowValues = first_of rows members in
    length-append (picked by first ++ picked copied first) (sums rows summed members)
    ∙ (λ i. (length-append (picked by first) (picked copied first) ∙ (λ j. length-map by (value_at first) j + length-map copied (value_at first) j)) i
    + length-map summed (λ (place : ℕ). is.Num (sum_or_zero (column_sum rows place (pos 0) members))) i)

pub rows_long : (rows : List RowValues) (by copied summed : List ℕ) (groups : List (List ℕ)) → AreRows (length by + length copied + length summed) (map (group_row rows by copied summed) groups)
rows_long rows by copied summed [] = tt
rows_long rows by copied summed (g ∷ groups) = (row_long rows by copied summed g, rows_long rows by copied summed groups)
