-- The gaps of a set of faces: what lies outside it and is shut in by it.
use Rattle.std.specs.Prelude.{◌≡◌, ℕ, Bool, not, nat_eq, List, filter, slice_index}
use Rattle.std.specs.List.{range_with_len}
use Rattle.lists.specs.Lists.{has}
use Rattle.face_walk.specs.Places.{FaceTable}
use Rattle.face_sets.specs.Joined.{AreParts}

-- the faces of a table that the set hasn't
abbrev pub outside_of : FaceTable → List ℕ → List ℕ
outside_of faces set = filter (λ (k : ℕ). not (has nat_eq set k)) (range_with_len 0 faces.count)

-- the face outside of all arcs is one of them
abbrev pub has_outer : FaceTable → List ℕ → Bool
has_outer faces some = has nat_eq some (slice_index faces.places 0)

-- The gaps of a set: the parts of what is outside it, in the order of the least arcs of their boundaries, without the
-- part that has the outer face.
pub record AreGaps (faces : FaceTable) (set : List ℕ) (gaps : List (List ℕ)) : Type 0 where
  pub parts : List (List ℕ)
  pub are_parts : AreParts faces (outside_of faces set) parts
  pub shut_in : gaps ≡ filter (λ (part : List ℕ). not (has_outer faces part)) parts
