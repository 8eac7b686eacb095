-- Items for the parts of sets, set by set.
use Rattle.std.specs.Prelude.{◌≡◌, ℕ, ◌<◌, List, [], ◌∷◌, ◌++◌, length, map, slice_index_or}
use Rattle.std.specs.List.{flat_map, enumerate_from}
use Rattle.face_walk.specs.Places.{FaceTable}
use Rattle.face_sets.specs.Joined.{AreParts}
use Rattle.region_ops.specs.declared.item_lists.PartItem.{PartItem}

-- the pieces of a set: the set itself where it is empty, else its parts
pub record ArePieces (faces : FaceTable) (set : List ℕ) (pieces : List (List ℕ)) : Type 0 where
  pub empty : set ≡ [] → pieces ≡ [] ∷ []
  pub parts : (set ≡ [] → ⊥) → AreParts faces set pieces

-- an item for each piece, with the number of its set
abbrev pub items_of : ℕ → List (List ℕ) → List PartItem
items_of n pieces = map (λ (piece : List ℕ). record { feature = n; set = piece }) pieces

-- the items of the pieces of a set appended to others
pub record IsPushed (faces : FaceTable) (n : ℕ) (set : List ℕ) (old new : List PartItem) : Type 0 where
  pub pieces : List (List ℕ)
  pub are : ArePieces faces set pieces
  pub items : new ≡ old ++ items_of n pieces

-- the items of the pieces of the first `many` sets, in order
pub record AreExploded (faces : FaceTable) (sets : List (List ℕ)) (many : ℕ) (items : List PartItem) : Type 0 where
  pub pieces : List (List (List ℕ))
  pub each : length pieces ≡ many
  pub are : (n : ℕ) → n < many → ArePieces faces (slice_index_or sets n []) (slice_index_or pieces n [])
  pub listed : items ≡ flat_map (λ (f : ℕ × List (List ℕ)). items_of f.0 f.1) (enumerate_from 0 pieces)

abbrev pub IsExploded : FaceTable → List (List ℕ) → List PartItem → Type 0
IsExploded faces sets items = AreExploded faces sets (length sets) items
