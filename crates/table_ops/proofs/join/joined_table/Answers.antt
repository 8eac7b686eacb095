use Rattle.std.proofs.Common.{◌≡◌, ◌++◌, ℕ, find, map, length, option_map, ap, sym, subst, ◌∙◌}
use Rattle.std.specs.List.{position_or_len}
use Rattle.std.specs.Str.{bytes_eq}
use Rattle.json_values.specs.Table.{RowValues, AreRows}
use Rattle.json_values.specs.declared.value.Value.{Value}
use Rattle.table_ops.specs.Join.{copied_name, new_fields, matches, match_of}
use Rattle.table_ops.specs.JoinColumns.{columns_of, column_value}
use Rattle.table_terms.specs.Names.{value_at, place_of}
use Rattle.table_rows.specs.Rows.{row_at}
use Rattle.table_ops.proofs.Joining.{values_joined, values_long, as_many_names}
use Rattle.table_ops.proofs.join.joined_table.Goals as goal

pub new-requires-clause-widths : goal.new-requires-clause-widths
new-requires-clause-widths c =
    let spec = c.args.spec.now in
    let target = c.args.target.now in
    let source = c.args.source.now in
    let names = c.in_ok-columns.ensures.names
    ∙ (λ i. c.names.ensures.names i ++ map (copied_name spec) (new_fields (c.names.ensures.names i) (c.names-2.ensures.names i) spec)) in
    let cells : c.as_slice.result.now ≡ columns_of target.names source.names spec =
    c.as_slice.ensures.value ∙ c.in_ok-columns.ensures.cells ∙ (λ i. columns_of (c.names.ensures.names i) (c.names-2.ensures.names i) spec) in
    let found : RowValues → _ = λ (row : RowValues). find (λ (n : ℕ). matches (value_at row c.place_or_end.result) (value_at (row_at c.rows-2.result.now n) c.place_or_end-2.result)) c.args.numbers.now in
    let value : RowValues → _ → Value = λ (row : RowValues). column_value row (option_map (row_at c.rows-2.result.now) (found row)) in
    let rows = c.in_ok-rows.ensures.rows ∙ (λ i. map (λ (row : RowValues). map (value row) (cells i)) c.rows.result.now) in
    let long = ap length names ∙ as_many_names target.names source.names spec in
    subst (AreRows (length c.in_ok-columns.columns.names)) (sym rows)
    (subst (λ (n : ℕ). AreRows n (map (λ (row : RowValues). map (value row) (columns_of target.names source.names spec)) c.rows.result.now)) (sym long)
    (values_long (columns_of target.names source.names spec) value c.rows.result.now))

pub returns : goal.returns
returns c =
    let spec = c.args.spec.now in
    let target = c.args.target.now in
    let source = c.args.source.now in
    let numbers = c.args.numbers.now in
    let names = c.new.ensures.names ∙ c.in_ok-columns.ensures.names
    ∙ (λ i. c.names.ensures.names i ++ map (copied_name spec) (new_fields (c.names.ensures.names i) (c.names-2.ensures.names i) spec)) in
    let cells : c.as_slice.result.now ≡ columns_of target.names source.names spec =
    c.as_slice.ensures.value ∙ c.in_ok-columns.ensures.cells ∙ (λ i. columns_of (c.names.ensures.names i) (c.names-2.ensures.names i) spec) in
    let key : c.place_or_end.result ≡ place_of target.names spec.target_key =
    c.place_or_end.ensures.place ∙ (λ i. position_or_len (bytes_eq (c.as_str.ensures.lent i)) (c.requires.target i)) in
    let source_key : c.place_or_end-2.result ≡ place_of source.names spec.source_key =
    c.place_or_end-2.ensures.place ∙ (λ i. position_or_len (bytes_eq (c.as_str-2.ensures.lent i)) (c.requires.source i)) in
    let rows = c.new.ensures.rows ∙ c.in_ok-rows.ensures.rows
    ∙ (λ i. map (λ (row : RowValues). map (column_value row (option_map (row_at (c.rows-2.ensures.rows i))
    (find (λ (n : ℕ). matches (value_at row (key i)) (value_at (row_at (c.rows-2.ensures.rows i) n) (source_key i))) numbers))) (cells i)) (c.rows.ensures.rows i))
    ∙ (λ i. map (λ (row : RowValues). values_joined target.names source.names spec row (match_of target source spec numbers row) i) target.rows) in
    record { exact = λ i. record { names = names i; rows = rows i } }
