-- Edges: segments without direction. A segment and the one that runs back along it have one edge.
use Rattle.std.specs.Prelude.{◌≡◌, ◌⊎◌, ℕ, List, Some, Contains, slice_get}
use Rattle.plane_model.specs.Points.{Segment, reversed}

-- the edge is the segment, or runs back along it
abbrev pub IsEdgeOf : Segment → Segment → Type 0
IsEdgeOf s edge = (edge ≡ s) ⊎ (edge ≡ reversed s)

-- number i of these edges is that of s
pub record HasEdgeAt (edges : List Segment) (s : Segment) (i : ℕ) : Type 0 where
  pub edge : Segment
  pub there : slice_get edges i ≡ Some edge
  pub along : IsEdgeOf s edge

-- the edges are some of the segments, and each of these has its edge
pub record AreEdgesOf (segments edges : List Segment) : Type 0 where
  pub from : (edge : Segment) → Contains edges edge → Contains segments edge
  pub to : (s : Segment) → Contains segments s → (edge : Segment) × Contains edges edge × IsEdgeOf s edge

-- edges of a list, and then of one more segment
pub record IsEdgeAdded (old new : List Segment) (s : Segment) : Type 0 where
  pub kept : (edge : Segment) → Contains old edge → Contains new edge
  pub from : (edge : Segment) → Contains new edge → Contains old edge ⊎ (edge ≡ s)
  pub there : (edge : Segment) × Contains new edge × IsEdgeOf s edge
