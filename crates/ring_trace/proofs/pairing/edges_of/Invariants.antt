use Rattle.std.proofs.Common.{◌≡◌, ◌<◌, length, map, take, All}
use Rattle.ring_trace.specs.declared.pairing.Edge.{Edge}
use Rattle.face_sets.specs.declared.joined_faces.Side.{Side}
use Rattle.ring_trace.specs.Pairing.{edge_of}
use Rattle.ring_trace.proofs.pairing.edges_of.Given as goal

abbrev pub invariant-loop-side : goal.invariant-loop-side
invariant-loop-side l =
    (length l.edges.items ≡ l.side-index)
    × All (λ (e : Edge). e.arc.arc < length l.t) l.edges.items
    × (map (λ (e : Edge). e.arc) l.edges.items ≡ map (λ (s : Side). s.arc) (take l.side-index l.sides))
    × (l.edges.items ≡ map (edge_of l.t l.parts.joining l.parts.numbers.items) (take l.side-index l.sides))
