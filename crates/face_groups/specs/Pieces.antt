-- The parts of the faces that have one key, for each key.
use Rattle.std.specs.Prelude.{◌≡◌, ℕ, Bool, List, ◌++◌, map, slice_index}
use Rattle.face_walk.specs.Places.{FaceTable}
use Rattle.face_sets.specs.Joined.{AreParts}
use Rattle.face_groups.specs.Groups.{AreGroupsOf, AreKeySets, IsKeyed}
use Rattle.face_groups.specs.declared.pieces.Piece.{Piece}

-- the first face of a set, and the parts of the set
pub record Group : Type 0 where
  pub face : ℕ
  pub parts : List (List ℕ)

-- a piece for each part, with the first face
abbrev pub pieces_of : ℕ → List (List ℕ) → List Piece
pieces_of face parts = map (λ (part : List ℕ). record { face = face; set = part }) parts

-- the pieces of each set
abbrev pub ArePieces : FaceTable → List (List ℕ) → List Piece → Type 0
ArePieces faces sets pieces = AreGroupsOf faces (λ (k : ℕ). k) (λ (g : Group). g.face) (λ (g : Group). g.parts) (λ (g : Group). pieces_of g.face g.parts) sets pieces

-- the pieces of the sets of all keys, in the order of the keys
pub record AreKeyPieces (faces : FaceTable) (keyed : ℕ → Bool) (before : ℕ → ℕ → Bool) (pieces : List Piece) : Type 0 where
  pub sets : List (List ℕ)
  pub by_key : AreKeySets (IsKeyed faces keyed) before sets
  pub are : ArePieces faces sets pieces

-- ---- on the way

-- the pieces of a set appended to others
pub record ArePushed (faces : FaceTable) (set : List ℕ) (old new : List Piece) : Type 0 where
  pub parts : List (List ℕ)
  pub are : AreParts faces set parts
  pub pieces : new ≡ old ++ pieces_of (slice_index set 0) parts
