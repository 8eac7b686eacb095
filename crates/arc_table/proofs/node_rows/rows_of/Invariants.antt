use Rattle.std.proofs.Common.{◌-◌, get_or, map, take}
use Rattle.plane_model.specs.Arcs.{forward}
use Rattle.arc_table.specs.Around.{signed_of, start_of}
use Rattle.arc_table.proofs.TurnTable.{IsUnderWay}
use Rattle.arc_table.proofs.node_rows.rows_of.Given as goal

-- the row is that of the last arc before this one
abbrev pub invariant-loop-code : goal.invariant-loop-code
invariant-loop-code l =
    let by_start = map signed_of l.codes in
    IsUnderWay l.arcs.spans (take l.code-index by_start) l.done l.row.items (start_of l.arcs.spans (get_or by_start (l.code-index - 1) (forward 0)))
