use Rattle.std.proofs.Common.{◌≡◌, [], take, map}
use Rattle.std.specs.String.{string_bytes}
use Rattle.json_values.specs.Table.{row_of}
use Rattle.json_values.proofs.table.nulls.Given as goal

abbrev pub invariant-loop : goal.invariant-loop
invariant-loop l = l.values.items ≡ row_of (map string_bytes (take l.index l.names)) []
