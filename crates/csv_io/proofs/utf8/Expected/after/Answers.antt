use Rattle.std.proofs.Common.{sym, subst}
use Rattle.std.specs.Prelude.{IfNone}
use Rattle.csv_io.specs.CsvUtf8.{Stops}
use Rattle.csv_io.specs.declared.utf8.Expected.{Expected}
use Rattle.csv_io.proofs.utf8.Expected.after.Goals as goal

pub returns-in-First-clause-none : goal.returns-in-First-clause-none
returns-in-First-clause-none c = subst (λ (e : Expected). IfNone c.after_first.result (Stops e c.args.byte)) (sym c.in-First.is) c.after_first.ensures.none
