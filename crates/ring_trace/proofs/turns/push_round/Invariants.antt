use Rattle.std.proofs.Common.{◌≡◌, ◌++◌, take}
use Rattle.ring_trace.specs.Keys.{arcs_along}
use Rattle.ring_trace.specs.Turns.{points_along}
use Rattle.ring_trace.proofs.turns.push_round.Given as goal

abbrev pub invariant-loop-e : goal.invariant-loop-e
invariant-loop-e l = l.points.items ≡ l.fn.points.items ++ points_along l.t (arcs_along l.edges (take l.e-index l.ring))
