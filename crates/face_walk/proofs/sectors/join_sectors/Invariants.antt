use Rattle.std.proofs.Common.{◌≡◌, ◌-◌, List, get_or, length}
use Rattle.plane_model.specs.Points.{GridPoint}
use Rattle.arc_table.specs.Rows.{AreRows}
use Rattle.face_walk.specs.Joins.{joined_by}
use Rattle.face_walk.specs.Sectors.{sectors_below}
use Rattle.face_walk.proofs.sectors.join_sectors.Given as goal

abbrev pub invariant-loop-k : goal.invariant-loop-k
invariant-loop-k l = (length l.joining ≡ length l.initial.joining)
    × ((starts nodes : List GridPoint) → AreRows starts nodes l.rows → l.joining ≡ joined_by (sectors_below starts l.outs (get_or l.rows (l.k - 1) 0)) l.initial.joining)
