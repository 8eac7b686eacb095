use Rattle.std.proofs.Common.{◌≡◌, ◌++◌, take, map}
use Rattle.plane_model.specs.Points.{GridPoint}
use Rattle.arc_table.proofs.vertices.push_vertices.Given as goal

abbrev pub invariant-loop-p : goal.invariant-loop-p
invariant-loop-p l = l.vertices.items ≡ l.fn.vertices.items ++ map (λ (p : GridPoint). record { at = p; arc = l.arc }) (take l.p-index l.points)
