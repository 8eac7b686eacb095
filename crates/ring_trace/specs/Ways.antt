-- Ways: lists of which each element starts where the one before it stops.
use Rattle.std.specs.Prelude.{◌≡◌, ℕ, ◌-◌, ◌<◌, List, [], ◌∷◌, All, Bool, true, false, nat_eq, count_by, if◌then◌else◌, length, map, take, drop, slice_index, slice_index_or}
use Rattle.plane_model.specs.Points.{Path}
use Rattle.ring_trace.specs.declared.pairing.Edge.{Edge}
use Rattle.ring_trace.specs.declared.simple_rings.RingSpan.{RingSpan}
use Rattle.ring_trace.specs.declared.simple_rings.Rings.{Rings}
use Rattle.ring_trace.specs.declared.simple_rings.Walk.{Walk}
use Rattle.ring_trace.specs.Pairing.{Corner, start_corner, stop_corner}
use Rattle.ring_trace.specs.Rings.{edge_at}

-- the list leads from v to w
abbrev pub IsWay : {E V : Type 0} → (E → V) → (E → V) → V → List E → V → Type 0
IsWay start stop v [] w = v ≡ w
IsWay start stop v (e ∷ es) w = (start e ≡ v) × IsWay start stop (stop e) es w

-- it comes back to where it starts, and no two of its elements start at one place
pub record IsSimpleRing {E V : Type 0} (start stop : E → V) (ring : List E) : Type 0 where
  pub at : V
  pub way : IsWay start stop at ring at
  pub apart : (i j : ℕ) (d : E) → i < length ring → j < length ring → start (slice_index_or ring i d) ≡ start (slice_index_or ring j d) → i ≡ j

-- the edges of a span
abbrev pub edges_in : List ℕ → RingSpan → List ℕ
edges_in edges s = take (s.end - s.begin) (drop s.begin edges)

abbrev pub AreSimpleRings : {V : Type 0} → (ℕ → V) → (ℕ → V) → List ℕ → List RingSpan → Type 0
AreSimpleRings start stop edges spans = All (λ s. IsSimpleRing start stop (edges_in edges s)) spans

-- the vertices where an edge starts and stops
abbrev pub start_in : List ℕ → ℕ → ℕ
start_in vertices e = slice_index vertices e

abbrev pub stop_in : List ℕ → List ℕ → ℕ → ℕ
stop_in onward vertices e = slice_index vertices (slice_index onward e)

-- how many edges of a list start at a vertex
abbrev pub times_at : List ℕ → ℕ → List ℕ → ℕ
times_at vertices v way = count_by (nat_eq v) (map (start_in vertices) way)

-- at a vertex that is marked one edge of the way starts, and none at any other
abbrev pub AreMarked : List ℕ → List Bool → List ℕ → Type 0
AreMarked vertices is_passed way = (v : ℕ) → times_at vertices v way ≡ (if slice_index_or is_passed v false then 1 else 0)

-- the way leads from one vertex to another, and the vertices on it are marked
pub record IsMarkedWay (walk : Walk) (from to : ℕ) : Type 0 where
  pub leads : IsWay (start_in walk.vertices.items) (stop_in walk.onward.items walk.vertices.items) from walk.way.items to
  pub marked : AreMarked walk.vertices.items walk.is_passed.items walk.way.items

-- each ring comes back to the vertex where it starts, and passes each of its vertices once
abbrev pub AreRingsByVertices : Walk → Rings → Type 0
AreRingsByVertices walk rings = AreSimpleRings (start_in walk.vertices.items) (stop_in walk.onward.items walk.vertices.items) rings.edges.items rings.spans.items

-- to each edge that has been gone along one of these leads
abbrev pub AreLedTo : List ℕ → List Bool → Type 0
AreLedTo onward is_gone = (k : ℕ) → slice_index_or is_gone k false ≡ true → (j : ℕ) × (slice_index_or is_gone j false ≡ true) × (slice_index onward j ≡ k)

-- nothing is on the way, and the edges gone along are those of whole runs
pub record IsAtRest (walk : Walk) (rings : Rings) : Type 0 where
  pub done : walk.way.items ≡ []
  pub marked : AreMarked walk.vertices.items walk.is_passed.items walk.way.items
  pub led : AreLedTo walk.onward.items walk.is_gone.items
  pub simple : AreRingsByVertices walk rings

-- the corners where the edge at a place starts and stops
abbrev pub start_at : List Edge → ℕ → Corner
start_at edges e = start_corner (edge_at edges e)

abbrev pub stop_at : List Path → List Edge → ℕ → Corner
stop_at arcs edges e = stop_corner arcs (edge_at edges e)

-- each ring leads from corner to corner and back to the first, and passes each of its corners once
abbrev pub AreRingsByCorners : List Path → List Edge → Rings → Type 0
AreRingsByCorners arcs edges rings = AreSimpleRings (start_at edges) (stop_at arcs edges) rings.edges.items rings.spans.items
