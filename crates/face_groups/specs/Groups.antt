-- Faces grouped by their keys: by a test of which of two keys comes first.
use Rattle.std.specs.Prelude.{◌≡◌, ℕ, ◌<◌, ◌≤◌, Bool, true, false, List, All, AllPairs, Contains, length, slice_index, slice_index_or}
use Rattle.std.specs.List.{flat_map}
use Rattle.std.specs.List.Sorted.{IsStrictlyIncreasing}
use Rattle.face_walk.specs.Places.{FaceTable}
use Rattle.face_sets.specs.Joined.{AreParts}
use Rattle.face_sets.specs.Sets.{IsInnerFace}

-- an inner face that has a key
pub record IsKeyed (faces : FaceTable) (keyed : ℕ → Bool) (k : ℕ) : Type 0 where
  pub inner : IsInnerFace faces k
  pub has_key : keyed k ≡ true

-- all such faces
pub record AreKeyed (faces : FaceTable) (keyed : ℕ → Bool) (list : List ℕ) : Type 0 where
  pub each : All (IsKeyed faces keyed) list
  pub all : (k : ℕ) → IsKeyed faces keyed k → Contains list k

-- some of the faces of which P is true, with keys that tie
pub record IsKeySet (P : ℕ → Type 0) (before : ℕ → ℕ → Bool) (set : List ℕ) : Type 0 where
  pub ascending : IsStrictlyIncreasing set
  pub some : 0 < length set
  pub of_them : (k : ℕ) → Contains set k → P k
  pub tied : (j k : ℕ) → Contains set j → Contains set k → before j k ≡ false

-- the keys of the faces of one set come before those of another
abbrev pub AreBefore : (ℕ → ℕ → Bool) → List ℕ → List ℕ → Type 0
AreBefore before a b = (j k : ℕ) → Contains a j → Contains b k → before j k ≡ true

-- all faces of which P is true, a set for each key, in the order of the keys
pub record AreKeySets (P : ℕ → Type 0) (before : ℕ → ℕ → Bool) (sets : List (List ℕ)) : Type 0 where
  pub each : All (IsKeySet P before) sets
  pub all : (k : ℕ) → P k → (set : List ℕ) × Contains sets set × Contains set k
  pub in_order : AllPairs (AreBefore before) sets

-- ---- what is made of the sets: a group of each, with the key of its faces and its parts, and items of each group

pub record IsGroupOf {Key Group : Type 0} (faces : FaceTable) (key_of : ℕ → Key) (key : Group → Key) (parts : Group → List (List ℕ)) (set : List ℕ) (g : Group) : Type 0 where
  pub key_is : key g ≡ key_of (slice_index set 0)
  pub are : AreParts faces set (parts g)

pub record AreGroupsOf {Key Group Item : Type 0} (faces : FaceTable) (key_of : ℕ → Key) (key : Group → Key) (parts : Group → List (List ℕ)) (items_of : Group → List Item) (sets : List (List ℕ)) (items : List Item) : Type 0 where
  pub groups : List Group
  pub count : length groups ≡ length sets
  pub each : (i : ℕ) (d : List ℕ) (e : Group) → i < length sets → IsGroupOf faces key_of key parts (slice_index_or sets i d) (slice_index_or groups i e)
  pub listed : items ≡ flat_map items_of groups

-- ---- on the way

-- along the faces their keys do not fall
abbrev pub AreByKey : (ℕ → ℕ → Bool) → List ℕ → Type 0
AreByKey before faces = (i j : ℕ) → i ≤ j → j < length faces → before (slice_index faces j) (slice_index faces i) ≡ false

-- the keys of the faces from one place to another tie with the first of them, and those of later faces come after it
pub record IsKeyRun (before : ℕ → ℕ → Bool) (faces : List ℕ) (first end : ℕ) : Type 0 where
  pub some : first < end
  pub within : end ≤ length faces
  pub inside : (k : ℕ) → first ≤ k → k < end → before (slice_index faces first) (slice_index faces k) ≡ false
  pub beyond : (k : ℕ) → end ≤ k → k < length faces → before (slice_index faces first) (slice_index faces k) ≡ true
