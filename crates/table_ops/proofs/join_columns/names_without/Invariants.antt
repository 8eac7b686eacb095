use Rattle.std.proofs.Common.{◌≡◌, filter, not, take}
use Rattle.std.specs.Str.{bytes_eq}
use Rattle.table_terms.specs.Names.{Text}
use Rattle.table_ops.proofs.join_columns.names_without.Given as goal

abbrev pub invariant-loop-name : goal.invariant-loop-name
invariant-loop-name l = l.others ≡ filter (λ (name : Text). not (bytes_eq name l.key)) (take l.name-index l.name-items)
