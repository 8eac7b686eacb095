use Rattle.std.proofs.Common.{◌≡◌, take}
use Rattle.json_values.proofs.json.+copying.Given as goal

abbrev pub invariant-JsonList::copy-loop-i : goal.invariant-JsonList::copy-loop-i
invariant-JsonList::copy-loop-i l = l.items.items ≡ take l.i l.self-inside.items.items

abbrev pub invariant-JsonFields::copy-loop-i : goal.invariant-JsonFields::copy-loop-i
invariant-JsonFields::copy-loop-i l = l.fields.items ≡ take l.i l.self-inside.fields.items
