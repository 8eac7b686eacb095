use Rattle.std.proofs.Common.{◌≡◌, length, take, map}
use Rattle.std.specs.List.{IsDistinct}
use Rattle.table_rows.specs.Groups.{groups_of, keys_once}
use Rattle.table_rows.specs.Keys.{same_values}
use Rattle.table_rows.specs.Rows.{picked}
use Rattle.table_rows.proofs.groups.add_rows.Given as goal

abbrev pub invariant-loop-i : goal.invariant-loop-i
invariant-loop-i l = record {
  counts : length l.keys.keys ≡ length l.members.items;
  distinct : IsDistinct same_values l.keys.keys;
  keys : l.keys.keys ≡ keys_once (map (picked l.places) (take l.i l.rows));
  members : l.members.items ≡ groups_of (map (picked l.places) (take l.i l.rows));
}
