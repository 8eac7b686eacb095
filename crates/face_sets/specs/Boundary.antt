-- The boundary of a set of faces: the signed arcs with a face of the set on their left and none on their right.
use Rattle.std.specs.Prelude.{◌≡◌, ℕ, ◌+◌, ◌≤◌, Bool, not, ◌&&◌, nat_eq, List, [], ◌∷◌, ◌++◌, Contains, filter, map}
use Rattle.lists.specs.Lists.{has}
use Rattle.plane_model.specs.Arcs.{SignedArc}
use Rattle.face_walk.specs.Places.{FaceTable, HasArc, face_left_of, signed_below, arcs_with_left}
use Rattle.face_sets.specs.declared.joined_faces.Side.{Side}

-- the same arc in the other direction, and the face on the right of a signed arc
abbrev pub other_way : SignedArc → SignedArc
other_way a = record { arc = a.arc; is_reversed = not a.is_reversed }

abbrev pub face_right_of : List ℕ → SignedArc → ℕ
face_right_of places a = face_left_of places (other_way a)

-- no face of the set is on its right
abbrev pub is_outward : List ℕ → List ℕ → SignedArc → Bool
is_outward places set a = not (has nat_eq set (face_right_of places a))

-- of the first `many` arcs, forward and reversed, those of the boundary
abbrev pub boundary : List ℕ → ℕ → List ℕ → List SignedArc
boundary places many set = filter (λ (a : SignedArc). has nat_eq set (face_left_of places a) && is_outward places set a) (signed_below many)

-- a signed arc of the boundary
pub record IsOnBoundary (faces : FaceTable) (set : List ℕ) (a : SignedArc) : Type 0 where
  pub arc : HasArc faces a
  pub left : Contains set (face_left_of faces.places a)
  pub right : Contains set (face_right_of faces.places a) → ⊥

-- n is the least number of an arc of the boundary
pub record IsLeastArc (faces : FaceTable) (set : List ℕ) (n : ℕ) : Type 0 where
  pub used : (a : SignedArc) × IsOnBoundary faces set a × (a.arc ≡ n)
  pub least : (a : SignedArc) → IsOnBoundary faces set a → n ≤ a.arc

-- the arcs round a face that are of the boundary, and each with the place of the face in the set
abbrev pub outward_at : List ℕ → ℕ → List ℕ → ℕ → List SignedArc
outward_at places many set f = filter (is_outward places set) (arcs_with_left places many f)

abbrev pub side_at : ℕ → SignedArc → Side
side_at i a = record { place = i; arc = a }

-- those round some faces of the set, which stand in it from a place on
abbrev pub sides_from : List ℕ → ℕ → List ℕ → ℕ → List ℕ → List Side
sides_from places many set i [] = []
sides_from places many set i (f ∷ fs) = map (side_at i) (outward_at places many set f) ++ sides_from places many set (i + 1) fs

-- the boundary of a set, face by face
abbrev pub sides_of : List ℕ → ℕ → List ℕ → List Side
sides_of places many set = sides_from places many set 0 set
