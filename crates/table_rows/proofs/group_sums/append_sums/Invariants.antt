use Rattle.std.proofs.Common.{◌≡◌, ◌++◌, take}
use Rattle.std.specs.Prelude.{fold}
use Rattle.table_rows.specs.Grouping.{earlier, refusals, sums}
use Rattle.table_rows.proofs.group_sums.append_sums.Given as goal

abbrev pub invariant-loop-place : goal.invariant-loop-place
invariant-loop-place l = record {
  sums : l.row ≡ l.initial.row ++ sums l.rows (take l.place-index l.places) l.members;
  refused : l.refused ≡ fold earlier l.initial.refused (refusals l.rows (take l.place-index l.places) l.members);
}
