use Rattle.std.proofs.Common.{◌≡◌, ◌++◌, filter, map, not, take}
use Rattle.table_ops.specs.Join.{copied_name}
use Rattle.table_ops.specs.JoinColumns.{added_column, join_of, kept_column}
use Rattle.table_terms.specs.Names.{Text, has_name}
use Rattle.table_ops.proofs.join_columns.copied_columns.Given as goal

abbrev pub invariant-loop-field : goal.invariant-loop-field
invariant-loop-field l =
    let name = copied_name (join_of l.copied) in
    let added = filter (λ (f : Text). not (has_name l.targets (name f))) (take l.field-index l.field-items) in
    record {
      names : l.columns.names ≡ l.target ++ map name added;
      cells : l.columns.cells.items ≡ map (kept_column l.targets l.sources (join_of l.copied)) l.target ++ map (added_column l.sources) added;
    }
