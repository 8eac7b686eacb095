use Rattle.std.proofs.Common.{◌≡◌, ◌++◌, drop, nat_eq}
use Rattle.json_values.specs.Seen.{items_seen, fields_seen}
use Rattle.json_values.specs.Text.{items_text, fields_text}
use Rattle.numerals.specs.Bytes.{Begins}
use Rattle.json_values.proofs.json.+printing.Given as goal

abbrev pub invariant-JsonList::print_into-loop-i : goal.invariant-JsonList::print_into-loop-i
invariant-JsonList::print_into-loop-i l =
    (l.out ++ items_text (nat_eq l.i 0) (items_seen (drop l.i l.self-inside.items.items)) ≡ l.initial.out ++ items_text (nat_eq 0 0) (items_seen l.self-inside.items.items)) × Begins l.fn.out l.out

abbrev pub invariant-JsonFields::print_into-loop-i : goal.invariant-JsonFields::print_into-loop-i
invariant-JsonFields::print_into-loop-i l =
    (l.out ++ fields_text (nat_eq l.i 0) (fields_seen (drop l.i l.self-inside.fields.items)) ≡ l.initial.out ++ fields_text (nat_eq 0 0) (fields_seen l.self-inside.fields.items)) × Begins l.fn.out l.out
