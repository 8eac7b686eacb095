use Rattle.std.proofs.Common.{◌≡◌, ℕ, take, find}
use Rattle.indexmap.specs.IndexMap.{get}
use Rattle.json_values.specs.Value.{same}
use Rattle.json_values.specs.declared.value.Value.{Value}
use Rattle.table_ops.specs.Join.{matches}
use Rattle.table_terms.specs.Names.{value_at}
use Rattle.table_rows.specs.Rows.{row_at}
use Rattle.table_ops.proofs.join_matches.first_rows.Given as goal

abbrev pub invariant-loop-number : goal.invariant-loop-number
invariant-loop-number l = (v : Value) → get same l.firsts v ≡ find (λ (n : ℕ). matches v (value_at (row_at l.rows n) l.place)) (take l.number-index l.numbers)
