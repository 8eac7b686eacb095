use Rattle.std.proofs.Common.{◌≡◌, [], take}
use Rattle.std.specs.List.{IsDistinct}
use Rattle.std.specs.Str.{bytes_eq}
use Rattle.indexmap.specs.IndexSet.{insert_all}
use Rattle.table_rows.specs.Merge.{all_names}
use Rattle.table_rows.proofs.merge.merged_names.Given as goal

abbrev pub invariant-loop-table : goal.invariant-loop-table
invariant-loop-table l = (l.names ≡ l.seen) × (l.seen ≡ insert_all bytes_eq [] (all_names (take l.table-index l.tables))) × IsDistinct bytes_eq l.seen
