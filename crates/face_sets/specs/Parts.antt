-- Sides of a set's boundary, by the places of its faces; and the parts of a set.
use Rattle.std.specs.Prelude.{◌≡◌, ℕ, ◌<◌, ◌≤◌, nat_eq, nat_lt, List, [], All, Contains, filter, length, map, slice_index_or, take}
use Rattle.std.specs.List.Sorted.{IsNonDecreasingBy, IsStrictlyIncreasing}
use Rattle.lists.specs.Lists.{ascending}
use Rattle.face_walk.specs.Places.{FaceTable, HasArc}
use Rattle.face_sets.specs.declared.joined_faces.Side.{Side}
use Rattle.face_sets.specs.declared.part_sets.PartFace.{PartFace}

-- a signed arc of the faces, with a place below `count`
pub record IsSide (faces : FaceTable) (count : ℕ) (side : Side) : Type 0 where
  pub arc : HasArc faces side.arc
  pub place : side.place < count

-- a face of the set
pub record IsFaceOf (set : List ℕ) (p : PartFace) : Type 0 where
  pub listed : Contains set p.face

-- some faces of the set
pub record IsPieceOf (set : List ℕ) (piece : List ℕ) : Type 0 where
  pub faces : All (Contains set) piece

-- each face of the list has one number, and no other face has one
pub record AreNumbered (faces : List ℕ) (numbered : List PartFace) : Type 0 where
  pub each : (k : ℕ) → Contains faces k → (p : PartFace) × Contains numbered p × (p.face ≡ k)
  pub one : (p q : PartFace) → Contains numbered p → Contains numbered q → p.face ≡ q.face → p.part ≡ q.part

-- the face at a place has the number n
abbrev pub HasPart : List PartFace → ℕ → ℕ → Type 0
HasPart numbered i n = (d : PartFace) → (slice_index_or numbered i d).part ≡ n

-- the numbers do not fall
abbrev pub AreInOrder : List PartFace → Type 0
AreInOrder numbered = IsNonDecreasingBy (λ (p : PartFace). p.part) numbered

-- the faces before a place have lesser numbers than the one there; or one of them has the same
abbrev pub Begins : List PartFace → ℕ → Type 0
Begins numbered i = (p d : PartFace) → Contains (take i numbered) p → p.part < (slice_index_or numbered i d).part

abbrev pub GoesOn : List PartFace → ℕ → Type 0
GoesOn numbered i = (d : PartFace) → (p : PartFace) × Contains (take i numbered) p × (p.part ≡ (slice_index_or numbered i d).part)

-- the faces from one place to another have the number n, and those after them have not
pub record IsRun (numbered : List PartFace) (n first end : ℕ) : Type 0 where
  pub within : end ≤ length numbered
  pub inside : (k : ℕ) → first ≤ k → k < end → HasPart numbered k n
  pub beyond : (k : ℕ) (d : PartFace) → end ≤ k → k < length numbered → (slice_index_or numbered k d).part ≡ n → ⊥

-- the faces of a number
abbrev pub faces_of_part : List PartFace → ℕ → List ℕ
faces_of_part numbered n = ascending nat_lt (map (λ (p : PartFace). p.face) (filter (λ (p : PartFace). nat_eq p.part n) numbered))

-- the set of the faces that have the number of the one at a place
abbrev pub IsPartAt : List PartFace → ℕ → List ℕ → Type 0
IsPartAt numbered i set = (d : PartFace) → set ≡ faces_of_part numbered (slice_index_or numbered i d).part

-- the sets are those of the numbers of some of the faces, in order of numbers
pub record AreGroups (numbered some : List PartFace) (sets : List (List ℕ)) : Type 0 where
  pub numbers : List ℕ
  pub rising : IsStrictlyIncreasing numbers
  pub used : (n : ℕ) → Contains numbers n → (p : PartFace) × Contains some p × (p.part ≡ n)
  pub reached : (p : PartFace) → Contains some p → Contains numbers p.part
  pub are : sets ≡ map (faces_of_part numbered) numbers

-- the set is divided: each part has faces of it, at least one, and each face of it is in one part
pub record IsDivided (set : List ℕ) (parts : List (List ℕ)) : Type 0 where
  pub faces : All (IsPieceOf set) parts
  pub some : (i : ℕ) → i < length parts → slice_index_or parts i [] ≡ [] → ⊥
  pub each : (k : ℕ) → Contains set k → (i : ℕ) × (i < length parts) × Contains (slice_index_or parts i []) k
  pub once : (i j k : ℕ) → i < length parts → j < length parts → Contains (slice_index_or parts i []) k → Contains (slice_index_or parts j []) k → i ≡ j
