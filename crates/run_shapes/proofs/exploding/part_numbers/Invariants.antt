use Rattle.std.proofs.Common.{◌≡◌, length, map, take}
use Rattle.region_ops.specs.declared.item_lists.PartItem.{PartItem}
use Rattle.run_shapes.proofs.exploding.part_numbers.Given as goal

abbrev pub invariant-loop-item : goal.invariant-loop-item
invariant-loop-item l = record {
  exact : l.numbers ≡ map (λ (item : PartItem). item.feature) (take l.item-index l.items);
  count : length l.numbers ≡ l.item-index;
}
