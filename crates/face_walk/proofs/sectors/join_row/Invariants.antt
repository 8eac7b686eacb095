use Rattle.std.proofs.Common.{◌≡◌, List, ℕ, length}
use Rattle.plane_model.specs.Points.{GridPoint}
use Rattle.arc_table.specs.Rows.{IsRow}
use Rattle.face_walk.specs.Joins.{joined_by}
use Rattle.face_walk.specs.Sectors.{sectors_below}
use Rattle.face_walk.proofs.sectors.join_row.Given as goal

abbrev pub invariant-loop-i : goal.invariant-loop-i
invariant-loop-i l = (length l.joining ≡ length l.initial.joining)
    × ((starts : List GridPoint) (p : GridPoint) (classes : List ℕ) → IsRow starts p l.first l.stop → l.initial.joining ≡ joined_by (sectors_below starts l.outs l.first) classes → l.joining ≡ joined_by (sectors_below starts l.outs l.i) classes)
