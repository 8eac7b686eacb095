use Rattle.std.proofs.Common.{◌≡◌, ◌++◌, take}
use Rattle.union_ops.proofs.united_tables.append_values.Given as goal

abbrev pub invariant-loop-value : goal.invariant-loop-value
invariant-loop-value l = l.out ≡ l.initial.out ++ take l.value-index l.value-items
