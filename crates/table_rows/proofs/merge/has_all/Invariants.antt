use Rattle.std.proofs.Common.{◌≡◌, drop}
use Rattle.std.specs.List.{list_all}
use Rattle.table_terms.specs.Names.{has_name}
use Rattle.table_rows.proofs.merge.has_all.Given as goal

abbrev pub invariant-loop-name : goal.invariant-loop-name
invariant-loop-name l = list_all (has_name l.set) l.name-items ≡ list_all (has_name l.set) (drop l.name-index l.name-items)
