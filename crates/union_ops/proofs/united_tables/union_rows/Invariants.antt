use Rattle.std.proofs.Common.{◌≡◌, length, map, take}
use Rattle.json_values.specs.Table.{AreRows}
use Rattle.table_rows.specs.Merge.{all_names}
use Rattle.union_ops.specs.declared.union_lists.UnionItem.{UnionItem}
use Rattle.union_ops.specs.UnionTable.{union_row}
use Rattle.union_ops.proofs.united_tables.union_rows.Given as goal

abbrev pub invariant-loop-item : goal.invariant-loop-item
invariant-loop-item l = (l.rows ≡ map (λ (item : UnionItem). union_row l.tables item.choice) (take l.item-index l.items)) × AreRows (length (all_names l.tables)) l.rows
