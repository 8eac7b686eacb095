use Rattle.std.proofs.Common.{◌≡◌, ◌+◌, [], take, drop, length}
use Rattle.std.specs.List.{IsDistinct}
use Rattle.std.specs.Str.{bytes_eq}
use Rattle.table_rows.specs.Refusals.{refused_item}
use Rattle.table_rows.proofs.items.check_list.Given as goal

abbrev pub invariant-loop-item : goal.invariant-loop-item
invariant-loop-item l = record {
  seen : l.seen ≡ take l.item-index l.item-items;
  exact : refused_item l.names [] l.first l.item-items ≡ refused_item l.names l.seen (l.first + length l.seen) (drop l.item-index l.item-items);
  distinct : IsDistinct bytes_eq l.seen;
}
