use Rattle.std.proofs.Common.{◌≡◌, drop}
use Rattle.csv_io.specs.CsvCells.{without_zeros}
use Rattle.csv_io.proofs.cells.without_zeros.Given as goal

abbrev pub invariant-loop-i : goal.invariant-loop-i
invariant-loop-i l = without_zeros l.size ≡ without_zeros (drop l.i l.size)
