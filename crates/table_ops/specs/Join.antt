-- A join by keys: each row of the target takes fields of the first source row whose key is the same.
use Rattle.std.specs.Prelude.{ℕ, Bool, true, false, not, ◌&&◌, List, [], ◌++◌, map, filter, find, Result, Ok, Option, Some, None, option_map, unwrap_or, if◌then◌else◌}
use Rattle.std.specs.Str.{bytes_eq}
use Rattle.lists.specs.Lists.{numbers_where}
use Rattle.expr_lang.specs.Tree.{tree_of}
use Rattle.expr_lang.specs.declared.expr.Expr.{Expr}
use Rattle.json_values.specs.Table.{TableContent, RowValues}
use Rattle.json_values.specs.Value.{same}
use Rattle.json_values.specs.declared.value.Value.{Value}
use Rattle.json_values.specs.declared.value.Value.TheVariants as is
use Rattle.table_terms.specs.Names.{Text, has_name, cell}
use Rattle.table_rows.specs.Rows.{row_at}
use Rattle.table_ops.specs.Filtering.{filter_rows}
use Rattle.table_terms.specs.Refusals.{unless, first_refusal, on_ok}
use Rattle.table_rows.specs.Refusals.{refused_item}
use Rattle.join_terms.specs.declared.joins.JoinSpec.{JoinSpec}
use Rattle.table_rows.specs.declared.fault.TableWhy.{TableWhy}
use Rattle.table_rows.specs.declared.fault.TableWhy.TheVariants.{NoField}

-- ---- columns, by the names of the two tables

-- the source fields that are copied: the listed ones, else all but the key
abbrev pub copied_fields : List Text → JoinSpec → List Text
copied_fields source spec = unwrap_or spec.fields (filter (λ (f : Text). not (bytes_eq f spec.source_key)) source)

abbrev pub copied_name : JoinSpec → Text → Text
copied_name spec f = spec.prefix ++ f

-- those of them that become new columns
abbrev pub new_fields : List Text → List Text → JoinSpec → List Text
new_fields target source spec = filter (λ (f : Text). not (has_name target (copied_name spec f))) (copied_fields source spec)

-- the one that takes the place of a column of the target
abbrev pub forced_field : List Text → JoinSpec → Text → Option Text
forced_field source spec name = if spec.force then find (λ (f : Text). bytes_eq name (copied_name spec f)) (copied_fields source spec) else None

-- ---- refusals: the two keys are items 0 and 1

abbrev pub refused_key : List Text → Text → ℕ → Option TableWhy
refused_key names key n = if has_name names key then None else Some (NoField n)

abbrev pub refused_join : List Text → List Text → JoinSpec → Option TableWhy
refused_join target source spec =
    first_refusal (refused_key target spec.target_key 0)
    (first_refusal (refused_key source spec.source_key 1) (refused_item source [] 2 (unwrap_or spec.fields [])))

-- ---- rows

-- the numbers of the source rows that take part: all, or those for which the test is true
abbrev pub candidates : TableContent → Option Expr → Result (List ℕ) TableWhy
candidates source None = Ok (numbers_where (λ (row : RowValues). true) source.rows)
candidates source (Some e) = filter_rows source (tree_of e) true

abbrev pub is_null : Value → Bool
is_null is.Null = true
is_null _ = false

-- null is the same as nothing
abbrev pub matches : Value → Value → Bool
matches v w = not (is_null w) && same v w

-- the first of these source rows whose key is the same
abbrev pub first_match : TableContent → JoinSpec → List ℕ → Value → Option ℕ
first_match source spec numbers v = find (λ (n : ℕ). matches v (cell source.names spec.source_key (row_at source.rows n))) numbers

-- a column of the target: its own value, or where a row matched that of the field that takes its place
abbrev pub kept_cell : List Text → Value → Option Text → Option RowValues → Value
kept_cell source own None matched = own
kept_cell source own (Some f) None = own
kept_cell source own (Some f) (Some row) = cell source f row

-- a new column: null where no row matched
abbrev pub new_cell : List Text → Option RowValues → Text → Value
new_cell source None f = is.Null
new_cell source (Some row) f = cell source f row

abbrev pub joined_row : List Text → List Text → JoinSpec → RowValues → Option RowValues → RowValues
joined_row target source spec row matched =
    map (λ (name : Text). kept_cell source (cell target name row) (forced_field source spec name) matched) target
    ++ map (new_cell source matched) (new_fields target source spec)

abbrev pub match_of : TableContent → TableContent → JoinSpec → List ℕ → RowValues → Option RowValues
match_of target source spec numbers row = option_map (row_at source.rows) (first_match source spec numbers (cell target.names spec.target_key row))

abbrev pub joined_table : TableContent → TableContent → JoinSpec → List ℕ → TableContent
joined_table target source spec numbers = record {
  names = target.names ++ map (copied_name spec) (new_fields target.names source.names spec);
  rows = map (λ (row : RowValues). joined_row target.names source.names spec row (match_of target source spec numbers row)) target.rows;
}

abbrev pub join_tables : TableContent → TableContent → JoinSpec → Result TableContent TableWhy
join_tables target source spec = unless (refused_join target.names source.names spec)
    (on_ok (candidates source spec.test) (λ (numbers : List ℕ). Ok (joined_table target source spec numbers)))
