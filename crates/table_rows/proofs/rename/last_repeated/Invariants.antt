use Rattle.std.proofs.Common.{◌≡◌, take, None}
use Rattle.std.specs.List.{last_or}
use Rattle.lists.specs.Lists.{numbers_where}
use Rattle.table_terms.specs.Names.{has_name}
use Rattle.table_terms.specs.declared.renames.Rename.{Rename}
use Rattle.table_rows.proofs.rename.last_repeated.Given as goal

abbrev pub invariant-loop-i : goal.invariant-loop-i
invariant-loop-i l = l.last ≡ last_or None (numbers_where (λ (pair : Rename). has_name l.repeated pair.label) (take l.i l.pairs))
