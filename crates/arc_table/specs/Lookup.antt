-- The least arc at a vertex, and the signed arc that a step begins.
use Rattle.std.specs.Prelude.{◌≡◌, ◌-◌, ◌<◌, ◌≤◌, ℕ, zero, suc, nat_lt, if◌then◌else◌, List, [], ◌++◌, map, take, drop, All, Contains, Option, Some, None, length, slice_index_or}
use Rattle.std.specs.List.Sorted.{IsPermutation, IsSorted}
use Rattle.std.specs.Ordering.{ordering_then, nat_cmp}
use Rattle.std.specs.declared.cmp.Ordering.{Ordering}
use Rattle.plane_model.specs.Points.{GridPoint, Segment, Path}
use Rattle.plane_model.specs.Drawing.{steps}
use Rattle.plane_model.specs.Arcs.{SignedArc}
use Rattle.grid_base.specs.Order.{point_cmp}
use Rattle.arc_table.specs.Around.{first_step}
use Rattle.arc_table.specs.declared.vertices.ArcVertex.{ArcVertex}

-- p is a vertex of arc n
abbrev pub HasVertex : List Path → ℕ → GridPoint → Type 0
HasVertex arcs n p = Contains (slice_index_or arcs n []) p

-- arc n has p as a vertex, and no lesser arc has
pub record IsLeastAt (arcs : List Path) (p : GridPoint) (n : ℕ) : Type 0 where
  pub there : n < length arcs
  pub on : HasVertex arcs n p
  pub least : (m : ℕ) → m < length arcs → HasVertex arcs m p → n ≤ m

-- the least arc at p; none exactly where no arc has p as a vertex
abbrev pub IsArcAt : List Path → GridPoint → Option ℕ → Type 0
IsArcAt arcs p None = (n : ℕ) → n < length arcs → HasVertex arcs n p → ⊥
IsArcAt arcs p (Some n) = IsLeastAt arcs p n

-- the points of a path between its first and its last
abbrev pub inner_of : Path → Path
inner_of path = take (length path - 2) (drop 1 path)

-- the vertices of the first n arcs between their ends, arc by arc
abbrev pub inner_below : List Path → ℕ → List ArcVertex
inner_below arcs zero = []
inner_below arcs (suc n) = inner_below arcs n ++ map (λ (p : GridPoint). record { at = p; arc = n }) (inner_of (slice_index_or arcs n []))

-- vertices are ordered by their point, then by their arc
abbrev pub vertex_cmp : ArcVertex → ArcVertex → Ordering
vertex_cmp v w = ordering_then (point_cmp v.at w.at) (nat_cmp v.arc w.arc)

-- the vertices of all arcs between their ends, in order
pub record AreInner (arcs : List Path) (vertices : List ArcVertex) : Type 0 where
  pub all : IsPermutation (inner_below arcs (length arcs)) vertices
  pub sorted : IsSorted vertex_cmp vertices

-- among vertices in order, the least arc of those at p, if there is one
abbrev pub IsFirstAt : List ArcVertex → GridPoint → Option ℕ → Type 0
IsFirstAt vertices p None = (n : ℕ) → Contains vertices (record { at = p; arc = n }) → ⊥
IsFirstAt vertices p (Some n) = Contains vertices (record { at = p; arc = n }) × ((m : ℕ) → Contains vertices (record { at = p; arc = m }) → n ≤ m)

-- some signed arc of the list goes along arc n
abbrev pub IsNamed : List SignedArc → ℕ → Type 0
IsNamed named n = (a : SignedArc) × Contains named a × (a.arc ≡ n)

-- the least arc that signed arcs go along, if there are any
abbrev pub IsLeastNamed : List SignedArc → Option ℕ → Type 0
IsLeastNamed named None = (a : SignedArc) → Contains named a → ⊥
IsLeastNamed named (Some n) = IsNamed named n × ((a : SignedArc) → Contains named a → n ≤ a.arc)

-- the lesser of two numbers, or the only one
abbrev pub lesser_of : Option ℕ → Option ℕ → Option ℕ
lesser_of None other = other
lesser_of (Some m) None = Some m
lesser_of (Some m) (Some n) = Some (if nat_lt n m then n else m)

-- ---- the signed arc that begins with a step

-- the signed arc that begins with a step; none exactly where no signed arc does
abbrev pub IsBegunBy : List Path → Segment → Option SignedArc → Type 0
IsBegunBy arcs s None = (a : SignedArc) → a.arc < length arcs → first_step arcs a ≡ s → ⊥
IsBegunBy arcs s (Some a) = (a.arc < length arcs) × (first_step arcs a ≡ s)

-- each signed arc begins with a step of the path
abbrev pub BeginAlong : List Path → Path → List SignedArc → Type 0
BeginAlong arcs path named = All (λ (a : SignedArc). (a.arc < length arcs) × Contains (steps path) (first_step arcs a)) named
