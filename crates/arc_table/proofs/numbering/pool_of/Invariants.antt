use Rattle.std.proofs.Common.{◌≡◌, ◌+◌, ◌<◌, length, All, take, map, sum_by}
use Rattle.arc_table.specs.Direction.{IsForward}
use Rattle.arc_table.specs.Numbering.{points_of_way, arc_points}
use Rattle.arc_table.proofs.numbering.pool_of.Given as goal

abbrev pub invariant-loop-way : goal.invariant-loop-way
invariant-loop-way l =
    (length l.pool.spans ≡ l.way-index) × All IsForward l.pool.spans × All (λ arc. 1 < length arc) l.pool.spans × (l.pool.spare_spans + l.way-index ≡ length l.ways)
    × (l.pool.spare_points + sum_by points_of_way (take l.way-index l.ways) ≡ sum_by points_of_way l.ways)
    × (l.pool.spans ≡ map (arc_points l.net) (take l.way-index l.ways))
