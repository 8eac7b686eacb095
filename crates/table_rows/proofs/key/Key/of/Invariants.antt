use Rattle.std.proofs.Common.{◌≡◌, take}
use Rattle.table_rows.specs.Rows.{picked}
use Rattle.table_rows.proofs.key.Key.of.Given as goal

abbrev pub invariant-loop-place : goal.invariant-loop-place
invariant-loop-place l = l.values.items ≡ picked (take l.place-index l.places) l.row
