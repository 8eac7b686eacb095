use Rattle.std.proofs.Common.{◌≡◌, map, take}
use Rattle.std.specs.Prelude.{fold}
use Rattle.std.specs.List.{flat_map}
use Rattle.table_rows.specs.Grouping.{earlier, group_row, refusals}
use Rattle.table_rows.proofs.group.group_rows_of.Given as goal

abbrev pub invariant-loop-i : goal.invariant-loop-i
invariant-loop-i l = record {
  rows : l.out ≡ map (group_row l.rows l.by l.copied l.summed) (take l.i l.members);
  refused : l.refused ≡ fold earlier l.initial.refused (flat_map (refusals l.rows l.summed) (take l.i l.members));
}
