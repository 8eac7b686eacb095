use Rattle.std.proofs.Common.{◌≡◌, length, take, map}
use Rattle.std.specs.String.{string_bytes}
use Rattle.json_values.specs.Table.{row_of}
use Rattle.json_values.proofs.table.row_of.Given as goal

abbrev pub invariant-loop-i : goal.invariant-loop-i
invariant-loop-i l = l.values.items ≡ row_of (map string_bytes l.names.keys) (take (length l.yielded) l.fn.fields)
