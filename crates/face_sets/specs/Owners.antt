-- Which sets of a list have a face.
use Rattle.std.specs.Prelude.{◌≡◌, ℕ, ◌<◌, nat_eq, List, [], ◌∷◌, ◌++◌, length, slice_index_or, slice_set, if◌then◌else◌}
use Rattle.lists.specs.Lists.{has, numbers_where}

-- the numbers of the sets that have the face, ascending
abbrev pub owners_of : List (List ℕ) → ℕ → List ℕ
owners_of sets k = numbers_where (λ (set : List ℕ). has nat_eq set k) sets

-- for each of `count` faces the list of the sets that have it
pub record AreOwners (sets : List (List ℕ)) (count : ℕ) (owners : List (List ℕ)) : Type 0 where
  pub each : length owners ≡ count
  pub exact : (k : ℕ) → k < count → slice_index_or owners k [] ≡ owners_of sets k

-- a number appended to the list at a place, where there is one
abbrev pub with_number : ℕ → ℕ → List (List ℕ) → List (List ℕ)
with_number n place lists = slice_set lists place (slice_index_or lists place [] ++ n ∷ [])

-- the lists of faces, with the number appended to those of the faces of a set
pub record IsNumbered (n : ℕ) (set : List ℕ) (old new : List (List ℕ)) : Type 0 where
  pub each : length new ≡ length old
  pub exact : (k : ℕ) → k < length old → slice_index_or new k [] ≡ slice_index_or old k [] ++ (if has nat_eq set k then n ∷ [] else [])
