-- How often the rings of polygons use a signed arc.
use Rattle.std.specs.Prelude.{◌≡◌, ℕ, ◌<◌, ◌≤◌, Bool, ◌&&◌, nat_eq, nat_lt, List, [], ◌∷◌, All, if◌then◌else◌, count_by, filter, length, slice_index_or}
use Rattle.std.specs.List.{sum_by}
use Rattle.lists.specs.Lists.{has}
use Rattle.plane_model.specs.Arcs.{SignedArc}
use Rattle.face_walk.specs.Places.{FaceTable, place_of, face_left_of}
use Rattle.ring_trace.specs.declared.pairing.Edge.{Edge}
use Rattle.face_sets.specs.Boundary.{is_outward, boundary}
use Rattle.face_sets.specs.Joined.{AreParts}
use Rattle.ring_trace.specs.Rings.{edge_at}

-- the same arc in the same direction
abbrev pub same_arc : SignedArc → SignedArc → Bool
same_arc a b = nat_eq (place_of a) (place_of b)

-- how often it is in a ring, in the rings of a polygon, and in those of polygons
abbrev pub times : SignedArc → List SignedArc → ℕ
times a ring = count_by (same_arc a) ring

abbrev pub times_round : SignedArc → List (List SignedArc) → ℕ
times_round a rings = sum_by (times a) rings

abbrev pub times_traced : SignedArc → List (List (List SignedArc)) → ℕ
times_traced a polygons = sum_by (times_round a) polygons

-- it is one of the first `many` arcs, a face of the set is on its left and none on its right
abbrev pub is_of_boundary : List ℕ → ℕ → List ℕ → SignedArc → Bool
is_of_boundary places many set a = nat_lt a.arc many && (has nat_eq set (face_left_of places a) && is_outward places set a)

abbrev pub once_if : Bool → ℕ
once_if t = if t then 1 else 0

-- how often the edge at a place goes along it
abbrev pub times_along : SignedArc → List Edge → ℕ → ℕ
times_along a edges k = once_if (same_arc a (edge_at edges k).arc)

-- the rings use each signed arc of the boundary once, and no other
pub record UsesBoundary (places : List ℕ) (many : ℕ) (set : List ℕ) (polygons : List (List (List SignedArc))) : Type 0 where
  pub once : (a : SignedArc) → times_traced a polygons ≡ once_if (is_of_boundary places many set a)

-- the ring begins with its arc of least number
abbrev pub BeginsWithLeast : List SignedArc → Type 0
BeginsWithLeast [] = ⊥
BeginsWithLeast (a ∷ rest) = All (λ b. a.arc ≤ b.arc) rest

-- the parts that have arcs in their boundaries
abbrev pub bounded : List ℕ → ℕ → List (List ℕ) → List (List ℕ)
bounded places many parts = filter (λ (part : List ℕ). nat_lt 0 (length (boundary places many part))) parts

-- One polygon for each of these parts, in their order: its rings use each signed arc of the boundary of the part once,
-- and no other.
pub record UseParts (places : List ℕ) (many : ℕ) (parts : List (List ℕ)) (polygons : List (List (List SignedArc))) : Type 0 where
  pub each : length polygons ≡ length (bounded places many parts)
  pub once : (k : ℕ) (a : SignedArc) → k < length polygons → times_round a (slice_index_or polygons k []) ≡ once_if (is_of_boundary places many (slice_index_or (bounded places many parts) k []) a)

-- some lists are the parts of the set, and there is one polygon for each of them
pub record HasPolygonsOfParts (faces : FaceTable) (many : ℕ) (set : List ℕ) (polygons : List (List (List SignedArc))) : Type 0 where
  pub parts : List (List ℕ)
  pub are_parts : AreParts faces set parts
  pub for_each : UseParts faces.places many parts polygons
