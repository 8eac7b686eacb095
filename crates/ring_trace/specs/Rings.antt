-- Rings as places of edges, and the way along edges from which they are cut.
use Rattle.std.specs.Prelude.{◌≡◌, ℕ, ◌+◌, ◌<◌, ◌≤◌, ◌^◌, pos, Bool, true, false, List, [], ◌∷◌, All, if◌then◌else◌, length, slice_index_or}
use Rattle.std.specs.List.{sum_by}
use Rattle.ring_trace.specs.declared.pairing.Edge.{Edge}
use Rattle.ring_trace.specs.declared.simple_rings.RingSpan.{RingSpan}
use Rattle.ring_trace.specs.declared.simple_rings.Rings.{Rings}
use Rattle.ring_trace.specs.declared.simple_rings.Walk.{Walk}

-- a span within a list of `count` edges
pub record IsSpan (count : ℕ) (span : RingSpan) : Type 0 where
  pub ordered : span.begin ≤ span.end
  pub within : span.end ≤ count

-- rings of edges, each edge by its number below `count`
pub record IsWhole (count : ℕ) (rings : Rings) : Type 0 where
  pub edges : All (λ e. e < count) rings.edges.items
  pub spans : All (IsSpan (length rings.edges.items)) rings.spans.items

-- each edge leads to an edge, and has a vertex, which is known by an edge
pub record IsWalk (walk : Walk) : Type 0 where
  pub few : length walk.onward.items < 2 ^ 32
  pub onward : All (λ e. e < length walk.onward.items) walk.onward.items
  pub vertices_each : length walk.vertices.items ≡ length walk.onward.items
  pub vertices : All (λ v. v < length walk.onward.items) walk.vertices.items
  pub gone_each : length walk.is_gone.items ≡ length walk.onward.items
  pub way : All (λ e. e < length walk.onward.items) walk.way.items
  pub passed_each : length walk.is_passed.items ≡ length walk.onward.items

-- what is added over the places of a list that hold true, counted from k
abbrev pub sum_where : (ℕ → ℕ) → ℕ → List Bool → ℕ
sum_where g k [] = 0
sum_where g k (b ∷ bs) = (if b then g k else 0) + sum_where g (k + 1) bs

-- spans one after the other, from one place to another
abbrev pub AreTiled : ℕ → List RingSpan → ℕ → Type 0
AreTiled from [] end = from ≡ end
AreTiled from (s ∷ spans) end = (s.begin ≡ from) × (s.begin ≤ s.end) × AreTiled s.end spans end

-- each edge that is gone along is once in the rings or on the way, and no other: whatever is added along these adds up
-- to the same; the spans are all of the rings
pub record IsKept (walk : Walk) (rings : Rings) : Type 0 where
  pub once : (g : ℕ → ℕ) → sum_by g rings.edges.items + sum_by g walk.way.items ≡ sum_where g 0 walk.is_gone.items
  pub tiled : AreTiled 0 rings.spans.items (length rings.edges.items)

-- what has been gone along stays so
abbrev pub StaysGone : List Bool → List Bool → Type 0
StaysGone old new = (k : ℕ) → slice_index_or old k false ≡ true → slice_index_or new k false ≡ true

-- the edge at a place
abbrev pub edge_at : List Edge → ℕ → Edge
edge_at edges k = slice_index_or edges k (record { part = 0; start = record { x = pos 0; y = pos 0 }; arc = record { arc = 0; is_reversed = false } })

-- the rings have each edge once: whatever is added along them adds up to the same
abbrev pub HasEachOnce : List Edge → Rings → Type 0
HasEachOnce edges rings = (g : Edge → ℕ) → sum_by (λ (k : ℕ). g (edge_at edges k)) rings.edges.items ≡ sum_by g edges
