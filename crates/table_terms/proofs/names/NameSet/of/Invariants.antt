use Rattle.std.proofs.Common.{◌≡◌, take}
use Rattle.table_terms.proofs.names.NameSet.of.Given as goal

abbrev pub invariant-loop-name : goal.invariant-loop-name
invariant-loop-name l = l.set ≡ take l.name-index l.name-items
