use Rattle.std.proofs.Common.{take}
use Rattle.table_rows.proofs.Renaming.{Seen, Repeated}
use Rattle.table_rows.proofs.rename.repeated_names.Given as goal

abbrev pub invariant-loop-name : goal.invariant-loop-name
invariant-loop-name l = Seen l.seen (take l.name-index l.name-items) × Repeated l.repeated (take l.name-index l.name-items)
