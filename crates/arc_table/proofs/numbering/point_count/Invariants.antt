use Rattle.std.proofs.Common.{◌≡◌, ◌*◌, ◌≤◌, take, sum_by}
use Rattle.arc_table.specs.Numbering.{points_of_way}
use Rattle.arc_table.proofs.numbering.point_count.Given as goal

abbrev pub invariant-loop-way : goal.invariant-loop-way
invariant-loop-way l = (l.count ≡ sum_by points_of_way (take l.way-index l.ways)) × (l.count ≤ l.way-index * 4294967296)
