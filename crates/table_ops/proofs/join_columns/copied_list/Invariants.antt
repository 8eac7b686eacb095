use Rattle.std.proofs.Common.{◌≡◌, ◌++◌, map, take}
use Rattle.table_terms.specs.Names.{Text}
use Rattle.table_ops.proofs.join_columns.copied_list.Given as goal

abbrev pub invariant-loop-field : goal.invariant-loop-field
invariant-loop-field l = l.names ≡ map (λ (f : Text). l.prefix ++ f) (take l.field-index l.field-items)
