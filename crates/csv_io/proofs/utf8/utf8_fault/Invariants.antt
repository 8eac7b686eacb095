use Rattle.std.proofs.Common.{take}
use Rattle.csv_io.specs.CsvUtf8.{Expects}
use Rattle.csv_io.proofs.utf8.utf8_fault.Given as goal

abbrev pub invariant-loop-i : goal.invariant-loop-i
invariant-loop-i l = Expects (take l.i l.bytes) l.expected
