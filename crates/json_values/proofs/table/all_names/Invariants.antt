use Rattle.std.proofs.Common.{◌≡◌, take, map}
use Rattle.std.specs.String.{string_bytes, string_eq}
use Rattle.indexmap.specs.IndexSet.{IsUnique}
use Rattle.json_values.specs.Table.{names_of}
use Rattle.json_values.proofs.table.all_names.Given as goal

abbrev pub invariant-loop-fields : goal.invariant-loop-fields
invariant-loop-fields l = (map string_bytes l.names.keys ≡ names_of (take l.fields-index l.rows)) × IsUnique string_eq l.names
