use Rattle.std.proofs.Common.{◌≡◌, ◌<◌, ◌≤◌, length, All}
use Rattle.ring_trace.specs.Pairing.{AreByStart}
use Rattle.ring_trace.proofs.VertexLemmas.{AreNumbered}
use Rattle.ring_trace.proofs.pairing.vertices_of.Given as goal

abbrev pub invariant-loop-k : goal.invariant-loop-k
invariant-loop-k l = record {
  each : length l.vertices.items ≡ l.k;
  there : All (λ v. v < length l.edges) l.vertices.items;
  first : l.first ≤ l.k;
  numbered : AreByStart l.edges → AreNumbered l.edges l.k l.first l.vertices.items;
}
