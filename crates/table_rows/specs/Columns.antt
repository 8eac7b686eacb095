-- Kept and renamed columns.
use Rattle.std.specs.Prelude.{Bool, nat_lt, List, [], map, find, count_by, Result, Ok, Option, None, option_map, unwrap_or}
use Rattle.std.specs.Str.{bytes_eq}
use Rattle.std.specs.List.{last_or}
use Rattle.lists.specs.Lists.{numbers_where}
use Rattle.table_terms.specs.Names.{Text, cell}
use Rattle.json_values.specs.Table.{TableContent, RowValues}
use Rattle.table_terms.specs.Refusals.{unless, first_refusal}
use Rattle.table_rows.specs.Refusals.{refused_item}
use Rattle.table_rows.specs.declared.fault.TableWhy.{TableWhy}
use Rattle.table_rows.specs.declared.fault.TableWhy.TheVariants.{FieldTwice}
use Rattle.table_terms.specs.declared.renames.Rename.{Rename}

-- the values of a row in these columns
abbrev pub cells : List Text → List Text → RowValues → RowValues
cells names fields row = map (λ (f : Text). cell names f row) fields

-- the listed columns, in the listed order
abbrev pub kept_columns : TableContent → List Text → TableContent
kept_columns t fields = record { names = fields; rows = map (cells t.names fields) t.rows }

abbrev pub keep_fields : TableContent → List Text → Result TableContent TableWhy
keep_fields t fields = unless (refused_item t.names [] 0 fields) (Ok (kept_columns t fields))

-- the new name of a column, or its own where no pair has it
abbrev pub renamed : List Rename → Text → Text
renamed pairs name = unwrap_or (option_map (λ (p : Rename). p.label) (find (λ (p : Rename). bytes_eq p.field name) pairs)) name

abbrev pub new_names : TableContent → List Rename → List Text
new_names t pairs = map (renamed pairs) t.names

abbrev pub is_twice : List Text → Text → Bool
is_twice names name = nat_lt 1 (count_by (bytes_eq name) names)

abbrev pub fields_of_pairs : List Rename → List Text
fields_of_pairs pairs = map (λ (p : Rename). p.field) pairs

-- the last item whose new name stands twice
abbrev pub refused_label : List Text → List Rename → Option TableWhy
refused_label names pairs = option_map FieldTwice (last_or None (numbers_where (λ (p : Rename). is_twice names p.label) pairs))

-- an old name that is none or stands twice, and then a new name that stands twice
abbrev pub refused_renames : List Text → List Rename → Option TableWhy
refused_renames names pairs = first_refusal (refused_item names [] 0 (fields_of_pairs pairs)) (refused_label (map (renamed pairs) names) pairs)

-- all pairs at once: columns keep their places, and no name stands twice
abbrev pub rename_fields : TableContent → List Rename → Result TableContent TableWhy
rename_fields t pairs = unless (refused_renames t.names pairs) (Ok (record { names = new_names t pairs; rows = t.rows }))
