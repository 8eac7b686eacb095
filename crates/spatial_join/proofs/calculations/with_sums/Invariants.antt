use Rattle.std.proofs.Common.{◌≡◌, drop}
use Rattle.spatial_join.specs.CalcColumns.{with_sums}
use Rattle.spatial_join.proofs.calculations.with_sums.Given as goal

abbrev pub invariant-loop-place : goal.invariant-loop-place
invariant-loop-place l = with_sums l.fn.values l.rows l.matched l.places ≡ with_sums l.row l.rows l.matched (drop l.place-index l.places)
