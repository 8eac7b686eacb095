use Rattle.std.proofs.Common.{◌≡◌, ◌++◌, take, map}
use Rattle.table_rows.specs.Rows.{picked}
use Rattle.table_rows.proofs.rows.append_picked_rows.Given as goal

abbrev pub invariant-loop-row : goal.invariant-loop-row
invariant-loop-row l = l.rows ≡ l.initial.rows ++ map (picked l.places) (take l.row-index l.row-items)
