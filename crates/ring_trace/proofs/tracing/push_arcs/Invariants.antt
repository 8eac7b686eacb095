use Rattle.std.proofs.Common.{◌≡◌, ◌++◌, take}
use Rattle.ring_trace.specs.Keys.{arcs_along}
use Rattle.ring_trace.proofs.tracing.push_arcs.Given as goal

abbrev pub invariant-loop-e : goal.invariant-loop-e
invariant-loop-e l = l.path ≡ l.fn.path ++ arcs_along l.edges (take l.e-index l.ring)
