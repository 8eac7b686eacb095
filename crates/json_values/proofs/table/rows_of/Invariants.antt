use Rattle.std.proofs.Common.{◌≡◌, map}
use Rattle.std.specs.String.{string_bytes}
use Rattle.json_values.specs.Table.{row_of}
use Rattle.json_values.proofs.table.rows_of.Given as goal

abbrev pub invariant-loop-fields : goal.invariant-loop-fields
invariant-loop-fields l = l.rows ≡ map (row_of (map string_bytes l.names.keys)) l.yielded
