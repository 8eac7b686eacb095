use Rattle.table_rows.specs.Rows.{row_at}
use Rattle.calc_ops.proofs.EachLemmas.{SoFar}
use Rattle.calc_ops.proofs.each_row.assigned_row.Given as goal

abbrev pub invariant-loop-i : goal.invariant-loop-i
invariant-loop-i l = SoFar l.t.names l.items l.n (row_at l.t.rows l.n) l.targets.names l.targets.places.items l.i l.values.items
