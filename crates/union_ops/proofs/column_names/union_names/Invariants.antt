use Rattle.std.proofs.Common.{◌≡◌, take}
use Rattle.std.specs.List.{IsDistinct}
use Rattle.std.specs.Str.{bytes_eq}
use Rattle.table_rows.specs.Merge.{all_names}
use Rattle.union_ops.specs.ColumnNames.{AreNewNames, AreTried}
use Rattle.union_ops.proofs.column_names.union_names.Given as goal

abbrev pub invariant-loop-table : goal.invariant-loop-table
invariant-loop-table l = record {
  same : l.names ≡ l.columns.names;
  tried : AreTried l.columns.names l.columns.untried.items;
  distinct : IsDistinct bytes_eq l.columns.names;
  named : AreNewNames (all_names (take l.table-index l.tables)) l.names;
}
