-- The table of a union of layers: the columns of their tables side by side, each under a name of its own.
use Rattle.std.specs.Prelude.{ℕ, ◌+◌, not, List, [], ◌∷◌, ◌++◌, map, filter, length, if◌then◌else◌}
use Rattle.std.specs.List.{range_with_len}
use Rattle.lists.specs.Lists.{first_or}
use Rattle.json_values.specs.Table.{TableContent}
use Rattle.table_terms.specs.Names.{Text, has_name}
use Rattle.table_rows.specs.Merge.{all_names}
use Rattle.region_model.specs.UnionCommand.{Choice}
use Rattle.union_ops.specs.ColumnNames.{numbered}
use Rattle.union_ops.specs.UnionTable.{union_row}

-- the least number from 2 on that makes the name new among these; one more number than there are names is enough
abbrev pub free_number : List Text → Text → ℕ
free_number names name = first_or 2 (filter (λ (k : ℕ). not (has_name names (numbered name k))) (range_with_len 2 (length names + 1)))

abbrev pub new_name : List Text → Text → Text
new_name names name = if has_name names name then numbered name (free_number names name) else name

-- names, and others after them, each made new among those before it
abbrev pub with_new_names : List Text → List Text → List Text
with_new_names names [] = names
with_new_names names (name ∷ rest) = with_new_names (names ++ new_name names name ∷ []) rest

-- a row for each choice, with the values of the chosen rows
abbrev pub union_table : List TableContent → List Choice → TableContent
union_table ts choices = record { names = with_new_names [] (all_names ts); rows = map (union_row ts) choices }
