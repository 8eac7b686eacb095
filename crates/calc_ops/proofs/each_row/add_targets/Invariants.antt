use Rattle.std.proofs.Common.{◌≡◌, ◌++◌, drop}
use Rattle.expr_lang.specs.Tree.{all_assigned}
use Rattle.json_values.specs.Table.{AreDistinctNames}
use Rattle.calc_ops.specs.EachRow.{names_after, places_after}
use Rattle.calc_ops.proofs.each_row.add_targets.Given as goal

abbrev pub invariant-loop-item : goal.invariant-loop-item
invariant-loop-item l = record {
  same : l.targets.names ≡ l.known;
  names_left : names_after l.known (all_assigned (drop l.item-index l.item-items)) ≡ names_after l.names (all_assigned l.item-items);
  places_left : l.targets.places.items ++ places_after l.known (all_assigned (drop l.item-index l.item-items)) ≡ places_after l.names (all_assigned l.item-items);
  distinct : AreDistinctNames l.known;
}
