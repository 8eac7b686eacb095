-- The columns of a joined table by places: where each comes from, and its value in a row.
use Rattle.std.specs.Prelude.{ℕ, List, [], ◌++◌, map, Option, Some, None, option_map, slice_get}
use Rattle.json_values.specs.Table.{RowValues}
use Rattle.json_values.specs.declared.value.Value.{Value}
use Rattle.json_values.specs.declared.value.Value.TheVariants as is
use Rattle.table_terms.specs.Names.{Text, value_at, place_of}
use Rattle.table_ops.specs.Join.{forced_field, new_fields}
use Rattle.join_terms.specs.declared.joins.JoinSpec.{JoinSpec}
use Rattle.table_ops.specs.declared.join_columns.Column.{Column}
use Rattle.table_ops.specs.declared.join_columns.Column.TheVariants.{Kept, Forced, Added}
use Rattle.table_ops.specs.declared.join_columns.CopiedFields.{CopiedFields}

-- a join that copies just these fields
abbrev pub join_of : CopiedFields → JoinSpec
join_of copied = record { target_key = []; source_key = []; fields = Some copied.fields.now; force = copied.force; test = None; prefix = copied.prefix.now }

abbrev pub kept_at : ℕ → Option ℕ → Column
kept_at own None = Kept own
kept_at own (Some place) = Forced own place

abbrev pub kept_column : List Text → List Text → JoinSpec → Text → Column
kept_column target source spec name = kept_at (place_of target name) (option_map (place_of source) (forced_field source spec name))

abbrev pub added_column : List Text → Text → Column
added_column source f = Added (place_of source f)

abbrev pub columns_of : List Text → List Text → JoinSpec → List Column
columns_of target source spec = map (kept_column target source spec) target ++ map (added_column source) (new_fields target source spec)

abbrev pub column_value : RowValues → Option RowValues → Column → Value
column_value row matched (Kept own) = value_at row own
column_value row None (Forced own place) = value_at row own
column_value row (Some other) (Forced own place) = value_at other place
column_value row None (Added place) = is.Null
column_value row (Some other) (Added place) = value_at other place

-- the row with the number that was found
abbrev pub row_found : List RowValues → Option ℕ → Option RowValues
row_found rows None = None
row_found rows (Some n) = slice_get rows n
