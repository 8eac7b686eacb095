-- Steps from face to face.
use Rattle.std.specs.Prelude.{◌≡◌, ◌⊎◌, ◌↔◌, ℕ, ◌+◌, ◌<◌, Bool, true, false, List, ◌++◌, All, Some, length, slice_get, slice_index, slice_index_or}
use Rattle.std.specs.List.{count_by}
use Rattle.plane_model.specs.Arcs.{SignedArc}
use Rattle.face_walk.specs.Places.{FaceTable, HasArc, face_left_of}
use Rattle.face_walk.specs.Sectors.{place_right_of}
use Rattle.face_walk.specs.declared.crossings.Crossing.{Crossing}

-- the face of the outside
abbrev pub outer_of : FaceTable → ℕ
outer_of faces = slice_index faces.places 0

-- the face of the place right of a signed arc
abbrev pub face_across : List ℕ → SignedArc → ℕ
face_across places a = slice_index places (place_right_of a)

-- a step from the face left of a signed arc into the face right of it
pub record IsCrossing (faces : FaceTable) (c : Crossing) : Type 0 where
  pub along : SignedArc
  pub there : HasArc faces along
  pub arc : along.arc ≡ c.arc
  pub left : face_left_of faces.places along ≡ c.from
  pub right : face_across faces.places along ≡ c.into
  pub from_there : c.from < faces.count
  pub into_there : c.into < faces.count

-- the face f is the outer one, or one of the first k crossings leads into it
abbrev pub IsReached : ℕ → List Crossing → ℕ → ℕ → Type 0
IsReached outer crossings k f = (f ≡ outer) ⊎ ((j : ℕ) × (c : Crossing) × (j < k) × (slice_get crossings j ≡ Some c) × (c.into ≡ f))

-- each crossing leads from a face that was reached before into one that was not
pub record AreCrossings (faces : FaceTable) (crossings : List Crossing) : Type 0 where
  pub each : All (IsCrossing faces) crossings
  pub onward : (k : ℕ) (c : Crossing) → slice_get crossings k ≡ Some c → IsReached (outer_of faces) crossings k c.from
  pub new : (k : ℕ) (c : Crossing) → slice_get crossings k ≡ Some c → IsReached (outer_of faces) crossings k c.into → ⊥

-- each arc with the face f on its left leads into a face that is reached
abbrev pub IsDone : FaceTable → List Crossing → ℕ → Type 0
IsDone faces crossings f = (a : SignedArc) → HasArc faces a → face_left_of faces.places a ≡ f → IsReached (outer_of faces) crossings (length crossings) (face_across faces.places a)

-- no arc leads on from the faces that are reached
abbrev pub LeaveNone : FaceTable → List Crossing → Type 0
LeaveNone faces crossings = (f : ℕ) → IsReached (outer_of faces) crossings (length crossings) f → IsDone faces crossings f

-- crossings, and a mark for each face that they reach
pub record AreMarked (faces : FaceTable) (crossings : List Crossing) (marks : List Bool) : Type 0 where
  pub crossings_are : AreCrossings faces crossings
  pub each : length marks ≡ faces.count
  pub marked : (f : ℕ) → f < faces.count → (slice_index_or marks f false ≡ true) ↔ IsReached (outer_of faces) crossings (length crossings) f
  pub counted : count_by (λ (b : Bool). b) marks ≡ length crossings + 1

-- the same crossings, and more after them
abbrev pub IsLonger : List Crossing → List Crossing → Type 0
IsLonger old new = (more : List Crossing) × (new ≡ old ++ more)
