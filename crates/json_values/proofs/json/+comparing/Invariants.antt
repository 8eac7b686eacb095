use Rattle.std.proofs.Common.{◌≡◌, length, drop}
use Rattle.json_values.specs.Seen.{items_seen, fields_seen}
use Rattle.json_values.specs.Value.{same_items, same_fields}
use Rattle.json_values.proofs.json.+comparing.Given as goal

abbrev pub invariant-JsonList::same-loop-i : goal.invariant-JsonList::same-loop-i
invariant-JsonList::same-loop-i l =
    (length l.self-inside.items.items ≡ length l.o-inside.items.items) × (same_items (items_seen l.self-inside.items.items) (items_seen l.o-inside.items.items) ≡ same_items (items_seen (drop l.i l.self-inside.items.items)) (items_seen (drop l.i l.o-inside.items.items)))

abbrev pub invariant-JsonFields::same-loop-i : goal.invariant-JsonFields::same-loop-i
invariant-JsonFields::same-loop-i l =
    (length l.self-inside.fields.items ≡ length l.o-inside.fields.items) × (same_fields (fields_seen l.self-inside.fields.items) (fields_seen l.o-inside.fields.items) ≡ same_fields (fields_seen (drop l.i l.self-inside.fields.items)) (fields_seen (drop l.i l.o-inside.fields.items)))
