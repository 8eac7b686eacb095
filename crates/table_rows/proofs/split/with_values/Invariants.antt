use Rattle.std.proofs.Common.{◌≡◌, map}
use Rattle.table_rows.specs.Splitting.{piece}
use Rattle.table_rows.proofs.split.with_values.Given as goal

abbrev pub invariant-loop-group : goal.invariant-loop-group
invariant-loop-group l = l.items ≡ map (piece l.rows l.place) l.yielded
