-- Rings with what they are ordered by.
use Rattle.std.specs.Prelude.{◌≡◌, ◌⊎◌, ℕ, ◌-◌, ◌<◌, ◌≤◌, nat_eq, not, List, ◌++◌, All, Contains, Option, Some, None, filter, length, map, slice_index, slice_index_or, take, drop}
use Rattle.std.specs.List.{sum_by}
use Rattle.std.specs.List.Sorted.{IsStrictlyIncreasing}
use Rattle.std.specs.Ordering.{bool_cmp, nat_cmp, ordering_then}
use Rattle.std.specs.declared.cmp.Ordering.{Ordering}
use Rattle.plane_model.specs.Arcs.{SignedArc}
use Rattle.plane_model.specs.Points.{Path}
use Rattle.ring_trace.specs.declared.pairing.Edge.{Edge}
use Rattle.ring_trace.specs.declared.simple_rings.Rings.{Rings}
use Rattle.ring_trace.specs.declared.simple_rings.RingSpan.{RingSpan}
use Rattle.ring_trace.specs.declared.ring_keys.RingKey.{RingKey}
use Rattle.ring_trace.specs.Rings.{edge_at}
use Rattle.ring_trace.specs.Turns.{is_left}

-- a place within a span of the edges of rings
pub record IsKey (rings : Rings) (key : RingKey) : Type 0 where
  pub begins : key.begin ≤ key.first
  pub goes_on : key.first ≤ key.end
  pub within : key.end ≤ length rings.edges.items

-- what is added along the edges of a span, and along those of the ring of a key
abbrev pub along_span : (ℕ → ℕ) → Rings → RingSpan → ℕ
along_span g rings span = sum_by g (take (span.end - span.begin) (drop span.begin rings.edges.items))

abbrev pub along_key : (ℕ → ℕ) → Rings → RingKey → ℕ
along_key g rings key = sum_by g (take (key.end - key.begin) (drop key.begin rings.edges.items))

-- the key of the ring of a span, or none where it has no edge
abbrev pub IsKeyOf : RingSpan → Option RingKey → Type 0
IsKeyOf span None = span.end ≤ span.begin
IsKeyOf span (Some key) = (key.begin ≡ span.begin) × (key.end ≡ span.end)

-- the ring of the key is that of one of the spans
pub record IsKeyOfSome (spans : List RingSpan) (key : RingKey) : Type 0 where
  pub span : RingSpan
  pub listed : Contains spans span
  pub begins : key.begin ≡ span.begin
  pub ends : key.end ≡ span.end

-- the edges from a place to an end, and then those from where they begin up to the place
abbrev pub edges_between : Rings → ℕ → ℕ → ℕ → List ℕ
edges_between rings begin first end = take (end - first) (drop first rings.edges.items) ++ take (first - begin) (drop begin rings.edges.items)

-- the edges of the ring of a key, from its first one on
abbrev pub edges_from : Rings → RingKey → List ℕ
edges_from rings key = edges_between rings key.begin key.first key.end

-- the arcs of some edges, and those of the ring of a key
abbrev pub arcs_along : List Edge → List ℕ → List SignedArc
arcs_along edges ring = map (λ k. (edge_at edges k).arc) ring

abbrev pub path_along : List Edge → Rings → RingKey → List SignedArc
path_along edges rings key = arcs_along edges (edges_from rings key)

-- the number of the arc of the edge at a place
abbrev pub arc_number : List Edge → ℕ → ℕ
arc_number edges e = (edge_at edges e).arc.arc

-- the key has the part of its first edge and the number of the arc of it, and no edge of its ring has an arc of lesser
-- number
pub record IsLeastFirst (edges : List Edge) (rings : Rings) (key : RingKey) : Type 0 where
  pub some : key.first < key.end
  pub part : key.part ≡ (edge_at edges (slice_index rings.edges.items key.first)).part
  pub least : key.least ≡ arc_number edges (slice_index rings.edges.items key.first)
  pub lowest : All (λ e. key.least ≤ arc_number edges e) (take (key.end - key.begin) (drop key.begin rings.edges.items))

-- the key says whether its ring is a hole
abbrev pub IsHoleBy : List Path → List Edge → Rings → RingKey → Type 0
IsHoleBy arcs edges rings key = key.is_hole ≡ not (is_left arcs (path_along edges rings key))

-- by part, then exteriors first, then by the least arcs
abbrev pub key_cmp : RingKey → RingKey → Ordering
key_cmp a b = ordering_then (nat_cmp a.part b.part) (ordering_then (bool_cmp a.is_hole b.is_hole) (nat_cmp a.least b.least))

-- the key at a place is of the part n
abbrev pub HasKeyPart : List RingKey → ℕ → ℕ → Type 0
HasKeyPart keys i n = (d : RingKey) → (slice_index_or keys i d).part ≡ n

-- keys stand before a place, all of lesser parts; or none stands there, or one of the same part
abbrev pub BeginsPart : List RingKey → ℕ → Type 0
BeginsPart keys i = (0 < i) × ((key d : RingKey) → Contains (take i keys) key → key.part < (slice_index_or keys i d).part)

abbrev pub StaysInPart : List RingKey → ℕ → Type 0
StaysInPart keys i = (d : RingKey) → (i ≡ 0) ⊎ ((key : RingKey) × Contains (take i keys) key × (key.part ≡ (slice_index_or keys i d).part))

-- the keys of a part
abbrev pub keys_of_part : List RingKey → ℕ → List RingKey
keys_of_part keys n = filter (λ (key : RingKey). nat_eq key.part n) keys

-- the polygons have the rings of the keys, those of a part in each, in order of the parts
pub record AreByPart (edges : List Edge) (rings : Rings) (keys : List RingKey) (polygons : List (List (List SignedArc))) : Type 0 where
  pub numbers : List ℕ
  pub rising : IsStrictlyIncreasing numbers
  pub used : (n : ℕ) → Contains numbers n → (key : RingKey) × Contains keys key × (key.part ≡ n)
  pub reached : (key : RingKey) → Contains keys key → Contains numbers key.part
  pub are : polygons ≡ map (λ n. map (path_along edges rings) (keys_of_part keys n)) numbers
