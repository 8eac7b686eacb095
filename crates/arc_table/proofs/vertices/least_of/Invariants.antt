use Rattle.std.proofs.Common.{take}
use Rattle.arc_table.specs.Lookup.{IsLeastNamed}
use Rattle.arc_table.proofs.vertices.least_of.Given as goal

abbrev pub invariant-loop-a : goal.invariant-loop-a
invariant-loop-a l = IsLeastNamed (take l.a-index l.named) l.least
