use Rattle.std.proofs.Common.{◌≡◌, take, map}
use Rattle.table_rows.specs.Columns.{renamed}
use Rattle.table_rows.proofs.rename.new_names.Given as goal

abbrev pub invariant-loop-name : goal.invariant-loop-name
invariant-loop-name l = l.out ≡ map (renamed l.pairs) (take l.name-index l.name-items)
