use Rattle.std.proofs.Common.{sym, subst, length}
use Rattle.json_values.specs.Table.{AreRows}
use Rattle.table_rows.proofs.Merging.{merged_long}
use Rattle.table_rows.proofs.merge.merged.Goals as goal

pub new-requires-clause-widths : goal.new-requires-clause-widths
new-requires-clause-widths c = subst (AreRows (length c.in_ok-names.names)) (sym c.in_ok-rows.ensures.rows) (merged_long c.in_ok-names.names c.args.tables.now)
