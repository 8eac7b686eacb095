-- Where the edges of parts start and end.
use Rattle.std.specs.Prelude.{◌≡◌, ◌↔◌, ℕ, ◌<◌, Bool, ◌&&◌, nat_eq, List, length, map, slice_index, count_by}
use Rattle.std.specs.List.Sorted.{IsPermutation, IsSorted}
use Rattle.std.specs.Ordering.{ordering_then, nat_cmp}
use Rattle.std.specs.declared.cmp.Ordering.{Ordering}
use Rattle.plane_model.specs.Points.{GridPoint, Path, same_point}
use Rattle.plane_model.specs.Arcs.{SignedArc}
use Rattle.arc_table.specs.Around.{start_of}
use Rattle.grid_base.specs.Order.{point_cmp}
use Rattle.face_sets.specs.declared.joined_faces.Side.{Side}
use Rattle.ring_trace.specs.declared.pairing.Edge.{Edge}
use Rattle.ring_trace.specs.declared.pairing.EdgeEnd.{EdgeEnd}
use Rattle.face_sets.specs.Boundary.{other_way}
use Rattle.ring_trace.specs.Rings.{edge_at}

-- where a signed arc ends
abbrev pub stop_of : List Path → SignedArc → GridPoint
stop_of arcs a = start_of arcs (other_way a)

-- a point of a part
pub record Corner : Type 0 where
  pub part : ℕ
  pub point : GridPoint

abbrev pub same_corner : Corner → Corner → Bool
same_corner v w = nat_eq v.part w.part && same_point v.point w.point

-- by part, then by point
abbrev pub corner_cmp : Corner → Corner → Ordering
corner_cmp v w = ordering_then (nat_cmp v.part w.part) (point_cmp v.point w.point)

-- where an edge starts and where it ends
abbrev pub start_corner : Edge → Corner
start_corner e = record { part = e.part; point = e.start }

abbrev pub stop_corner : List Path → Edge → Corner
stop_corner arcs e = record { part = e.part; point = stop_of arcs e.arc }

-- the number of the part of a side, by the classes of places and the numbers of classes
abbrev pub number_at : List ℕ → List ℕ → ℕ → ℕ
number_at classes numbers place = slice_index numbers (slice_index classes place)

-- the edge of a side
abbrev pub edge_of : List Path → List ℕ → List ℕ → Side → Edge
edge_of arcs classes numbers s = record { part = number_at classes numbers s.place; start = start_of arcs s.arc; arc = s.arc }

-- the edges of the sides, in whatever order
abbrev pub AreEdgesOf : List Path → List ℕ → List ℕ → List Side → List Edge → Type 0
AreEdgesOf arcs classes numbers sides edges = IsPermutation (map (edge_of arcs classes numbers) sides) edges

-- at each point as many edges of a part end as start there
abbrev pub AreBalanced : List Path → List Edge → Type 0
AreBalanced arcs edges = (v : Corner) → count_by (λ e. same_corner v (start_corner e)) edges ≡ count_by (λ e. same_corner v (stop_corner arcs e)) edges

-- edges by part, then by start
abbrev pub AreByStart : List Edge → Type 0
AreByStart edges = IsSorted corner_cmp (map start_corner edges)

-- where the end of an edge is
abbrev pub end_corner : EdgeEnd → Corner
end_corner e = record { part = e.part; point = e.stop }

-- each edge leads to one that starts where it ends
abbrev pub LeadOn : List Path → List Edge → List ℕ → Type 0
LeadOn arcs edges onward = (k : ℕ) → k < length edges → start_corner (edge_at edges (slice_index onward k)) ≡ stop_corner arcs (edge_at edges k)

-- no two of the numbers are one
abbrev pub AreApart : List ℕ → Type 0
AreApart numbers = (j k : ℕ) → j < length numbers → k < length numbers → slice_index numbers j ≡ slice_index numbers k → j ≡ k

-- two edges have one number exactly where they start at one point of one part
abbrev pub AreVertices : List Edge → List ℕ → Type 0
AreVertices edges vertices = (j k : ℕ) → j < length edges → k < length edges →
    (slice_index vertices j ≡ slice_index vertices k) ↔ (start_corner (edge_at edges j) ≡ start_corner (edge_at edges k))
