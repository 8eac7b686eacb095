use Rattle.std.proofs.Common.{◌≡◌, drop}
use Rattle.std.specs.List.{zip}
use Rattle.table_ops.proofs.Testing.{past}
use Rattle.spatial_join.specs.CalcColumns.{rows_by_places}
use Rattle.spatial_join.proofs.joined.joined_rows.Given as goal

abbrev pub invariant-loop-i : goal.invariant-loop-i
invariant-loop-i l =
    rows_by_places l.source l.columns l.sums l.remaining (zip l.target l.matches)
    ≡ past l.rows (rows_by_places l.source l.columns l.sums l.remaining (drop l.i (zip l.target l.matches)))
