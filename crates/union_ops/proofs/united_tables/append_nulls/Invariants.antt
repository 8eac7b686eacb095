use Rattle.std.proofs.Common.{◌≡◌, ◌++◌, map, take}
use Rattle.json_values.specs.declared.value.Value.TheVariants.{Null}
use Rattle.table_terms.specs.Names.{Text}
use Rattle.union_ops.proofs.united_tables.append_nulls.Given as goal

abbrev pub invariant-loop-column : goal.invariant-loop-column
invariant-loop-column l = l.out ≡ l.initial.out ++ map (λ (name : Text). Null) (take l._column l.names)
