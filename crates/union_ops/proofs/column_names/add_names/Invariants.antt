use Rattle.std.proofs.Common.{◌≡◌, ℕ, ◌++◌, List, take}
use Rattle.std.specs.List.{IsDistinct}
use Rattle.std.specs.Str.{bytes_eq}
use Rattle.union_ops.specs.ColumnNames.{AreNewNames, AreTried}
use Rattle.union_ops.proofs.column_names.add_names.Given as goal

abbrev pub invariant-loop-name : goal.invariant-loop-name
invariant-loop-name l = record {
  same : l.names ≡ l.columns.names;
  tried : AreTried l.columns.names l.columns.untried.items;
  distinct : IsDistinct bytes_eq l.columns.names;
  named : (earlier : List (List ℕ)) → AreNewNames earlier l.initial.names → AreNewNames (earlier ++ take l.name-index l.name-items) l.names;
}
