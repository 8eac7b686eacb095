-- Tables one under another.
use Rattle.std.specs.Prelude.{ℕ, ◌+◌, Bool, ◌&&◌, List, [], ◌∷◌, map, Result, Ok, Option, Some, None, if◌then◌else◌}
use Rattle.std.specs.List.{list_all, flat_map}
use Rattle.std.specs.Str.{bytes_eq}
use Rattle.indexmap.specs.IndexSet.{insert_all}
use Rattle.json_values.specs.Table.{TableContent, RowValues}
use Rattle.table_terms.specs.Names.{Text, has_name}
use Rattle.table_rows.specs.Columns.{cells}
use Rattle.table_terms.specs.Refusals.{unless}
use Rattle.table_rows.specs.declared.fault.TableWhy.{TableWhy}
use Rattle.table_rows.specs.declared.fault.TableWhy.TheVariants.{FieldsDiffer}

abbrev pub same_names : List Text → List Text → Bool
same_names ms ns = list_all (has_name ns) ms && list_all (has_name ms) ns

-- the first table, from number n on, whose set of names is another
abbrev pub differing : List Text → ℕ → List TableContent → Option TableWhy
differing names n [] = None
differing names n (t ∷ ts) = if same_names names t.names then differing names (n + 1) ts else Some (FieldsDiffer n)

abbrev pub refused_merge : Bool → List TableContent → Option TableWhy
refused_merge force [] = None
refused_merge force (t ∷ ts) = if force then None else differing t.names 1 ts

abbrev pub all_names : List TableContent → List Text
all_names ts = flat_map (λ (t : TableContent). t.names) ts

-- the columns of the first table, then new ones in order
abbrev pub merged_names : List TableContent → List Text
merged_names ts = insert_all bytes_eq [] (all_names ts)

-- the rows of each table; the value of a column that it lacks is null
abbrev pub merged_rows : List Text → List TableContent → List RowValues
merged_rows names ts = flat_map (λ (t : TableContent). map (cells t.names names) t.rows) ts

abbrev pub merge_tables : List TableContent → Bool → Result TableContent TableWhy
merge_tables ts force = unless (refused_merge force ts)
    (Ok (record { names = merged_names ts; rows = merged_rows (merged_names ts) ts }))
