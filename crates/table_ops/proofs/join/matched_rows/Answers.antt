use Rattle.std.proofs.Common.{◌≡◌, ℕ, Bool, List, find, map, option_map, ap, subst, ◌∙◌}
use Rattle.std.specs.Prelude.{IfOk}
use Rattle.indexmap.specs.IndexMap.{get}
use Rattle.json_values.specs.Table.{RowValues}
use Rattle.json_values.specs.Value.{same}
use Rattle.table_ops.specs.Join.{matches}
use Rattle.table_ops.specs.JoinColumns.{column_value, row_found}
use Rattle.table_terms.specs.Names.{value_at}
use Rattle.table_rows.specs.Rows.{row_at}
use Rattle.table_ops.proofs.Joining.{found_row}
use Rattle.table_ops.proofs.join.matched_rows.Goals as goal

pub returns : goal.returns
returns c =
    let source = c.args.source.now in
    let numbers = c.args.numbers.now in
    let fits : RowValues → ℕ → Bool = λ (row : RowValues) (n : ℕ). matches (value_at row c.args.key) (value_at (row_at source n) c.args.source_key) in
    let found : (row : RowValues) → row_found source (get same c.in_ok-firsts.firsts (value_at row c.args.key)) ≡ option_map (row_at source) (find (fits row) numbers) =
    λ (row : RowValues). ap (row_found source) (c.in_ok-firsts.ensures.first (value_at row c.args.key)) ∙ found_row source (fits row) numbers c.requires.within in
    record {
      rows = subst (λ (out : List RowValues). IfOk c.joined_rows.result (λ rows. rows ≡ out))
          (λ i. map (λ (row : RowValues). map (column_value row (found row i)) c.args.columns.now) c.args.target.now) c.joined_rows.ensures.rows;
    }
