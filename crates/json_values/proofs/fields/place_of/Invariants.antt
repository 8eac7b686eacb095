use Rattle.std.proofs.Common.{take}
use Rattle.json_values.specs.Table.{IsNewName}
use Rattle.json_values.proofs.fields.place_of.Given as goal

abbrev pub invariant-loop-i : goal.invariant-loop-i
invariant-loop-i l = IsNewName l.name (take l.i l.fields)
