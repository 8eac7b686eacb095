use Rattle.std.proofs.Common.{◌≡◌, length, take}
use Rattle.table_rows.specs.Merge.{all_names}
use Rattle.union_ops.proofs.TableLemmas.{row_so_far}
use Rattle.union_ops.proofs.united_tables.union_row.Given as goal

abbrev pub invariant-loop-i : goal.invariant-loop-i
invariant-loop-i l = (l.row ≡ row_so_far l.tables l.choice l.i) × (length l.row ≡ length (all_names (take l.i l.tables)))
