use Rattle.std.proofs.Common.{arith, inl, inr}
use Rattle.csv_io.proofs.CsvUtf8.{first_of_one, first_of_none}
use Rattle.csv_io.proofs.utf8.Expected.after_first.Goals as goal

pub returns-in-0-to-127-clause-next : goal.returns-in-0-to-127-clause-next
returns-in-0-to-127-clause-next c = first_of_one c.args.byte (omega (arith, c.in-0-to-127))

pub returns-in_default-clause-none : goal.returns-in_default-clause-none
returns-in_default-clause-none c = first_of_none c.args.byte (omega arith) (inl (omega arith))

pub returns-in_default-2-clause-none : goal.returns-in_default-2-clause-none
returns-in_default-2-clause-none c = first_of_none c.args.byte (omega arith) (inr (omega arith))
