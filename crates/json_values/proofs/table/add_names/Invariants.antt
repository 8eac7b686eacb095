use Rattle.std.proofs.Common.{◌≡◌, take, map}
use Rattle.std.specs.String.{string_bytes, string_eq}
use Rattle.indexmap.specs.IndexSet.{IsUnique}
use Rattle.json_values.specs.Table.{add_names}
use Rattle.json_values.proofs.table.add_names.Given as goal

abbrev pub invariant-loop-i : goal.invariant-loop-i
invariant-loop-i l =
    (map string_bytes l.names.keys ≡ add_names (map string_bytes l.fn.names.keys) (map (λ f. f.0) (take l.i l.fields))) × IsUnique string_eq l.names
