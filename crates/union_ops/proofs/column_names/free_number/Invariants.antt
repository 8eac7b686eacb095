use Rattle.std.proofs.Common.{◌≡◌, ℕ, ◌<◌, ◌≤◌, true}
use Rattle.table_terms.specs.Names.{has_name}
use Rattle.union_ops.specs.ColumnNames.{numbered}
use Rattle.union_ops.proofs.column_names.free_number.Given as goal

abbrev pub invariant-loop-number : goal.invariant-loop-number
invariant-loop-number l = (k : ℕ) → l.first ≤ k → k < l.number → has_name l.names (numbered l.name k) ≡ true
