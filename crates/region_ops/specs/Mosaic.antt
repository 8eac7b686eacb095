-- The mosaic of sets: the parts of the faces that just the same sets have.
use Rattle.std.specs.Prelude.{◌≡◌, ℕ, ◌<◌, true, nat_eq, nat_lt, List, [], All, AllPairs, Contains, filter, map}
use Rattle.std.specs.List.{flat_map, range_with_len}
use Rattle.lists.specs.Lists.{list_before, same_list}
use Rattle.face_walk.specs.Holders.{list_at}
use Rattle.face_walk.specs.Places.{FaceTable}
use Rattle.face_sets.specs.Joined.{AreParts}
use Rattle.face_sets.specs.Owners.{owners_of}
use Rattle.face_groups.specs.declared.pieces.Piece.{Piece}
use Rattle.region_ops.specs.declared.item_lists.MosaicItem.{MosaicItem}

-- of `count` faces, those that just the sets of a list have
abbrev pub faces_of : List (List ℕ) → ℕ → List ℕ → List ℕ
faces_of sets count ids = filter (λ (k : ℕ). same_list nat_eq (owners_of sets k) ids) (range_with_len 0 count)

-- numbers of sets, and the parts of the faces that just these sets have
pub record Group : Type 0 where
  pub ids : List ℕ
  pub parts : List (List ℕ)

-- an item for each part, with the numbers of its sets
abbrev pub items_of : List ℕ → List (List ℕ) → List MosaicItem
items_of ids parts = map (λ (part : List ℕ). record { ids = ids; set = part }) parts

abbrev pub items_of_groups : List Group → List MosaicItem
items_of_groups groups = flat_map (λ (g : Group). items_of g.ids g.parts) groups

-- the lists of the groups ascend
abbrev pub AreAscending : List Group → Type 0
AreAscending groups = AllPairs (λ (g h : Group). list_before nat_lt g.ids h.ids ≡ true) groups

-- Each list of sets that is not empty and is just the sets that have some face, in lexicographic order of lists; and
-- for each the parts of all faces with that list, in order.
pub record IsMosaic (faces : FaceTable) (sets : List (List ℕ)) (items : List MosaicItem) : Type 0 where
  pub groups : List Group
  pub in_order : AreAscending groups
  pub some : (g : Group) → Contains groups g → g.ids ≡ [] → ⊥
  pub used : (g : Group) → Contains groups g → (k : ℕ) × (k < faces.count) × (owners_of sets k ≡ g.ids)
  pub all : (k : ℕ) → k < faces.count → (owners_of sets k ≡ [] → ⊥) → (g : Group) × Contains groups g × (g.ids ≡ owners_of sets k)
  pub parts : (g : Group) → Contains groups g → AreParts faces (faces_of sets faces.count g.ids) g.parts
  pub listed : items ≡ items_of_groups groups

-- the sets that have a face of the piece are those of its numbers, at least one, and no others
pub record IsShared (sets : List (List ℕ)) (item : MosaicItem) : Type 0 where
  pub owners : All (λ k. owners_of sets k ≡ item.ids) item.set
  pub some : item.ids ≡ [] → ⊥

-- ---- on the way, by lists for the faces

-- the piece, with the list of its faces
abbrev pub item_of : List (List ℕ) → Piece → MosaicItem
item_of owners piece = record { ids = list_at owners piece.face; set = piece.set }
