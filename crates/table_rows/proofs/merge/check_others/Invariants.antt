use Rattle.std.proofs.Common.{◌≡◌, drop}
use Rattle.table_rows.specs.Merge.{differing}
use Rattle.table_rows.proofs.merge.check_others.Given as goal

abbrev pub invariant-loop-i : goal.invariant-loop-i
invariant-loop-i l = differing l.first 1 (drop 1 l.tables) ≡ differing l.first l.i (drop l.i l.tables)
