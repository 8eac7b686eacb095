-- The union of layers: the parts of the faces that have one choice.
use Rattle.std.specs.Prelude.{◌≡◌, ℕ, ◌<◌, Bool, true, List, [], All, AllPairs, Contains, filter, length, map, slice_index_or}
use Rattle.std.specs.List.{flat_map, range_with_len}
use Rattle.face_walk.specs.Places.{FaceTable}
use Rattle.face_sets.specs.Joined.{AreParts}
use Rattle.face_sets.specs.Sets.{IsSetOf}
use Rattle.face_groups.specs.declared.pieces.Piece.{Piece}
use Rattle.union_ops.specs.Choices.{Choice, choice_of, has_number, same_choice, choice_before, IsChoiceFrom}
use Rattle.union_ops.specs.declared.union_lists.UnionItem.{UnionItem}

-- of `count` faces, those with the choice
abbrev pub faces_of : List (List (List ℕ)) → ℕ → Choice → List ℕ
faces_of layers count choice = filter (λ (k : ℕ). same_choice (choice_of layers k) choice) (range_with_len 0 count)

-- a choice, and the parts of the faces that have it
pub record Group : Type 0 where
  pub choice : Choice
  pub parts : List (List ℕ)

-- an item for each part, with the choice
abbrev pub items_of : Choice → List (List ℕ) → List UnionItem
items_of choice parts = map (λ (part : List ℕ). record { choice = choice; set = part }) parts

abbrev pub items_of_groups : List Group → List UnionItem
items_of_groups groups = flat_map (λ (g : Group). items_of g.choice g.parts) groups

-- the choices of the groups ascend
abbrev pub AreAscending : List Group → Type 0
AreAscending groups = AllPairs (λ (g h : Group). choice_before g.choice h.choice ≡ true) groups

-- Each choice that some face has and that has a number, in lexicographic order, none after every number; and for each
-- the parts of all faces with that choice, in order.
pub record IsUnion (faces : FaceTable) (layers : List (List (List ℕ))) (items : List UnionItem) : Type 0 where
  pub groups : List Group
  pub in_order : AreAscending groups
  pub some : (g : Group) → Contains groups g → has_number g.choice ≡ true
  pub used : (g : Group) → Contains groups g → (k : ℕ) × (k < faces.count) × (choice_of layers k ≡ g.choice)
  pub all : (k : ℕ) → k < faces.count → has_number (choice_of layers k) ≡ true → (g : Group) × Contains groups g × (g.choice ≡ choice_of layers k)
  pub parts : (g : Group) → Contains groups g → AreParts faces (faces_of layers faces.count g.choice) g.parts
  pub listed : items ≡ items_of_groups groups

-- ---- laws

-- no face is in both
abbrev pub AreApart : UnionItem → UnionItem → Type 0
AreApart a b = (k : ℕ) → Contains a.set k → Contains b.set k → ⊥

-- some set of some layer has the face
pub record IsHeld (layers : List (List (List ℕ))) (k : ℕ) : Type 0 where
  pub layer : List (List ℕ)
  pub set : List ℕ
  pub of_the_layers : Contains layers layer
  pub of_the_layer : Contains layer set
  pub has : Contains set k

-- each face that some set has is in one item, and no face is in two
pub record CoverOnce (layers : List (List (List ℕ))) (items : List UnionItem) : Type 0 where
  pub covered : (k : ℕ) → IsHeld layers k → (a : UnionItem) × Contains items a × Contains a.set k
  pub once : AllPairs AreApart items

-- inner faces, all with the item's choice, which is from the sets of the layers and has a number
pub record IsItemOf (faces : FaceTable) (layers : List (List (List ℕ))) (item : UnionItem) : Type 0 where
  pub inner : IsSetOf faces item.set
  pub alike : All (λ k. choice_of layers k ≡ item.choice) item.set
  pub some : has_number item.choice ≡ true
  pub from : IsChoiceFrom (map (λ (sets : List (List ℕ)). length sets) layers) item.choice

-- ---- on the way, by choices for the faces

abbrev pub choice_at : List Choice → ℕ → Choice
choice_at choices k = slice_index_or choices k []

-- the choice of a face has a number; or comes before that of another
abbrev pub is_chosen : List Choice → ℕ → Bool
is_chosen choices k = has_number (choice_at choices k)

abbrev pub chosen_before : List Choice → ℕ → ℕ → Bool
chosen_before choices j k = choice_before (choice_at choices j) (choice_at choices k)

-- the piece, with the choice of its faces
abbrev pub item_of : List Choice → Piece → UnionItem
item_of choices piece = record { choice = choice_at choices piece.face; set = piece.set }
