-- Fields that are set by expressions, row by row.
use Rattle.std.specs.Prelude.{ℕ, ◌+◌, List, [], ◌∷◌, ◌++◌, map, length, nat_lt, slice_set, Result, Ok, if◌then◌else◌}
use Rattle.std.specs.Str.{bytes_eq}
use Rattle.indexmap.specs.IndexSet.{insert_key, insert_all}
use Rattle.expr_lang.specs.Meaning.{evaluated}
use Rattle.expr_lang.specs.Tree.{Assigned}
use Rattle.json_values.specs.Table.{TableContent, RowValues}
use Rattle.json_values.specs.declared.value.Value.{Value}
use Rattle.table_terms.specs.Names.{Text, place_of}
use Rattle.table_terms.specs.Refusals.{on_ok}
use Rattle.table_ops.specs.Filtering.{value_for}
use Rattle.table_rows.specs.declared.fault.TableWhy.{TableWhy}

-- the names of the columns with one that is set: a name that is new goes last
abbrev pub with_name : List Text → Text → List Text
with_name names name = insert_key bytes_eq names name

-- a row with the value at a place, or with one value more
abbrev pub with_value : RowValues → ℕ → Value → RowValues
with_value row place v = if nat_lt place (length row) then slice_set row place v else row ++ v ∷ []

-- row n after assignments in order, each of which knows these names and those that were set before it
abbrev pub assigned_row : List Text → ℕ → List Assigned → RowValues → Result RowValues TableWhy
assigned_row names n [] row = Ok row
assigned_row names n (a ∷ rest) row =
    on_ok (value_for n (evaluated names row n a.1)) (λ v. assigned_row (with_name names a.0) n rest (with_value row (place_of names a.0) v))

-- rows in order, from number n on, or the first refusal
abbrev pub assigned_rows : List Text → List Assigned → ℕ → List RowValues → Result (List RowValues) TableWhy
assigned_rows names list n [] = Ok []
assigned_rows names list n (row ∷ rows) =
    on_ok (assigned_row names n list row) (λ one. on_ok (assigned_rows names list (n + 1) rows) (λ others. Ok (one ∷ others)))

-- the names after the assignments, also where there are no rows
abbrev pub names_after : List Text → List Assigned → List Text
names_after names list = insert_all bytes_eq names (map (λ (a : Assigned). a.0) list)

abbrev pub each_rows : TableContent → List Assigned → Result TableContent TableWhy
each_rows t list = on_ok (assigned_rows t.names list 0 t.rows) (λ rows. Ok (record { names = names_after t.names list; rows = rows }))

-- ---- on the way

-- the place of each name that is set, among the names that are known then
abbrev pub places_after : List Text → List Assigned → List ℕ
places_after names [] = []
places_after names (a ∷ rest) = place_of names a.0 ∷ places_after (with_name names a.0) rest
