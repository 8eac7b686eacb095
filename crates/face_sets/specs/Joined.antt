-- Faces of a set that arcs join, and the parts of a set.
use Rattle.std.specs.Prelude.{◌≡◌, ◌↔◌, ◌⊎◌, ℕ, ◌+◌, ◌*◌, ◌^◌, ◌<◌, ◌≤◌, List, [], ◌∷◌, All, Contains, length, slice_index, slice_index_or}
use Rattle.std.specs.List.Sorted.{IsStrictlyIncreasing}
use Rattle.plane_model.specs.Arcs.{SignedArc}
use Rattle.face_walk.specs.Places.{FaceTable, HasArc, face_left_of}
use Rattle.face_sets.specs.declared.joined_faces.Side.{Side}
use Rattle.face_sets.specs.declared.part_sets.PartFace.{PartFace}
use Rattle.face_sets.specs.Boundary.{face_right_of, IsLeastArc}
use Rattle.face_sets.specs.Parts.{IsDivided}

-- the arc leads from the face f, on its left, to a face of the set
pub record LeadsOver (faces : FaceTable) (set : List ℕ) (f : ℕ) (a : SignedArc) : Type 0 where
  pub arc : HasArc faces a
  pub from : face_left_of faces.places a ≡ f
  pub into : Contains set (face_right_of faces.places a)

-- arcs that lead one after the other from the face f to the face g
abbrev pub IsChain : FaceTable → List ℕ → ℕ → List SignedArc → ℕ → Type 0
IsChain faces set f [] g = f ≡ g
IsChain faces set f (a ∷ rest) g = LeadsOver faces set f a × IsChain faces set (face_right_of faces.places a) rest g

-- a chain of arcs between faces of the set leads from one face to the other
abbrev pub AreJoined : FaceTable → List ℕ → ℕ → ℕ → Type 0
AreJoined faces set f g = (chain : List SignedArc) × IsChain faces set f chain g

-- two places of the set are of one class exactly where their faces are joined
abbrev pub AreJoinedBy : FaceTable → List ℕ → List ℕ → Type 0
AreJoinedBy faces set classes = (i j : ℕ) → i < length set → j < length set →
    (slice_index classes i ≡ slice_index classes j) ↔ AreJoined faces set (slice_index set i) (slice_index set j)

-- places of one class have joined faces
abbrev pub AreSound : FaceTable → List ℕ → List ℕ → Type 0
AreSound faces set classes = (i j : ℕ) → i < length set → j < length set → slice_index classes i ≡ slice_index classes j → AreJoined faces set (slice_index set i) (slice_index set j)

-- the face at a place is of one class with those across its arcs; or across one arc
abbrev pub IsJoinedOver : FaceTable → List ℕ → ℕ → SignedArc → List ℕ → Type 0
IsJoinedOver faces set i a classes = (j : ℕ) → j < length set → slice_index set j ≡ face_right_of faces.places a → slice_index classes i ≡ slice_index classes j

abbrev pub IsJoinedAround : FaceTable → List ℕ → ℕ → List ℕ → Type 0
IsJoinedAround faces set i classes = (a : SignedArc) → HasArc faces a → face_left_of faces.places a ≡ slice_index set i → IsJoinedOver faces set i a classes

-- what was of one class is
abbrev pub IsCoarser : List ℕ → List ℕ → Type 0
IsCoarser old new = (i j : ℕ) → i < length old → j < length old → slice_index old i ≡ slice_index old j → slice_index new i ≡ slice_index new j

-- a side of a class
abbrev pub IsOfClass : List ℕ → ℕ → Side → Type 0
IsOfClass classes k s = slice_index classes s.place ≡ k

-- at the least place of each class the least number of an arc of its sides; none is greater than 2 ^ 32 - 1, and that
-- stands for a class with no sides
pub record AreLeastNumbers (classes : List ℕ) (sides : List Side) (numbers : List ℕ) : Type 0 where
  pub few : All (λ (s : Side). s.arc.arc < 2 ^ 32) sides
  pub least : (k : ℕ) (s : Side) → k < length numbers → Contains sides s → IsOfClass classes k s → slice_index numbers k ≤ s.arc.arc
  pub used : (k : ℕ) → k < length numbers → (slice_index numbers k ≡ 4294967295) ⊎ ((s : Side) × Contains sides s × IsOfClass classes k s × (s.arc.arc ≡ slice_index numbers k))
  pub below : (k : ℕ) → k < length numbers → slice_index numbers k < 2 ^ 32

-- the place of a class in order: first by the least number, then by the least place
abbrev pub rank_of : List ℕ → List ℕ → ℕ → ℕ
rank_of classes numbers i = slice_index numbers (slice_index classes i) * 4294967296 + slice_index classes i

-- the number of each face of the set is the rank of its class
pub record IsRanked (set classes numbers : List ℕ) (p : PartFace) : Type 0 where
  pub place : ℕ
  pub within : place < length set
  pub face : p.face ≡ slice_index set place
  pub rank : p.part ≡ rank_of classes numbers place

-- The parts of a set: each face of it is in one of them, two faces are in one part exactly where they are joined, and
-- the parts stand in the order of the least arcs of their boundaries.
pub record AreParts (faces : FaceTable) (set : List ℕ) (parts : List (List ℕ)) : Type 0 where
  pub divided : IsDivided set parts
  pub ascending : All IsStrictlyIncreasing parts
  pub joined : (i j f g : ℕ) → i < length parts → j < length parts → Contains (slice_index_or parts i []) f → Contains (slice_index_or parts j []) g → (i ≡ j) ↔ AreJoined faces set f g
  pub in_order : (i j m n : ℕ) → i < j → j < length parts → IsLeastArc faces (slice_index_or parts i []) m → IsLeastArc faces (slice_index_or parts j []) n → m < n
