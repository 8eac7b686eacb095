use Rattle.std.proofs.Common.{◌≡◌, length}
use Rattle.link_search.specs.Rows.{AreLowest}
use Rattle.link_search.proofs.rows.lowest_of.Given as goal

abbrev pub invariant-loop-i : goal.invariant-loop-i
invariant-loop-i l = record {
  each : length l.lowest.items ≡ l.i;
  exact : AreLowest l.links l.lowest.items;
}
