-- Sets of faces of a table.
use Rattle.std.specs.Prelude.{◌≡◌, ℕ, ◌<◌, ℤ, pos, ◌+ℤ◌, List, [], ◌∷◌, All, Some, slice_get, slice_index_or}
use Rattle.face_walk.specs.Places.{FaceTable}

-- a face other than the outer one
pub record IsInnerFace (faces : FaceTable) (k : ℕ) : Type 0 where
  pub there : k < faces.count
  pub not_outer : slice_get faces.places 0 ≡ Some k → ⊥

-- the faces of the set are such faces
abbrev pub IsSetOf : FaceTable → List ℕ → Type 0
IsSetOf faces set = All (IsInnerFace faces) set

-- twice the area of the faces together, from twice the area of each face
abbrev pub area_of : List ℤ → List ℕ → ℤ
area_of areas [] = pos 0
area_of areas (k ∷ ks) = slice_index_or areas k (pos 0) +ℤ area_of areas ks
