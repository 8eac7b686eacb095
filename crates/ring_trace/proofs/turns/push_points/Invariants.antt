use Rattle.std.proofs.Common.{◌≡◌, ◌++◌, take}
use Rattle.plane_model.specs.Arcs.{points_of}
use Rattle.ring_trace.proofs.turns.push_points.Given as goal

abbrev pub invariant-loop-k : goal.invariant-loop-k
invariant-loop-k l = l.points.items ≡ l.fn.points.items ++ take l.k (points_of l.t l.arc)
