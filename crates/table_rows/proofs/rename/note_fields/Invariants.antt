use Rattle.std.proofs.Common.{◌≡◌, [], take, drop, length}
use Rattle.table_rows.specs.Columns.{fields_of_pairs}
use Rattle.table_rows.specs.Refusals.{refused_item}
use Rattle.table_rows.proofs.rename.note_fields.Given as goal

abbrev pub invariant-loop-pair : goal.invariant-loop-pair
invariant-loop-pair l = record {
  noted : l.fields ≡ fields_of_pairs (take l.pair-index l.pair-items);
  exact : refused_item l.names [] 0 (fields_of_pairs l.pair-items) ≡ refused_item l.names l.fields (length l.fields) (fields_of_pairs (drop l.pair-index l.pair-items));
}
