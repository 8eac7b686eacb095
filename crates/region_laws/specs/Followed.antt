-- Sets of faces follow regions.
use Rattle.std.specs.Prelude.{◌≡◌, ◌↔◌, ℕ, ◌<◌, Bool, nat_lt, List, [], ◌∷◌, ◌++◌, All, Contains, filter, length, map, slice_index_or, ℤ}
use Rattle.std.specs.List.{enumerate_from, flat_map, range_with_len}
use Rattle.std.specs.List.Sorted.{IsStrictlyIncreasing}
use Rattle.lists.specs.Lists.{ascending}
use Rattle.plane_model.specs.Points.{RationalPoint, Segment, Path}
use Rattle.plane_model.specs.Boundary.{boundary_by, twice_area}
use Rattle.plane_model.specs.Drawing.{Drawing}
use Rattle.plane_model.specs.Sees.{IsOffLinks}
use Rattle.plane_model.specs.Snapped.{links_of, snapped}
use Rattle.plane_faces.specs.Places.{Place}
use Rattle.grid_base.specs.Drawn.{HasPaths}
use Rattle.grid_base.specs.declared.kinds.OverlapRule.{OverlapRule}
use Rattle.arc_table.specs.PathArcs.{AreArcsOf}
use Rattle.face_walk.specs.Holders.{AreHolders, HolderTable, list_at}
use Rattle.face_walk.specs.Places.{FaceTable, IsBuiltOf}
use Rattle.face_laws.specs.Faces.{IsFaceOfPlace}
use Rattle.face_sets.specs.Joined.{AreParts}
use Rattle.face_sets.specs.Sets.{IsSetOf}
use Rattle.region_ops.specs.Cleaned.{IsCleaned, area_of, ranks_before}
use Rattle.region_ops.specs.Cut.{meet, minus}
use Rattle.region_ops.specs.Dissolved.{set_at, union_of}
use Rattle.region_ops.specs.Exploded.{IsExploded, items_of}
use Rattle.region_ops.specs.Mosaic.{AreAscending, Group, IsMosaic, items_of_groups}
use Rattle.region_ops.specs.declared.item_lists.MosaicItem.{MosaicItem}
use Rattle.region_ops.specs.declared.item_lists.PartItem.{PartItem}
use Rattle.region_model.specs.Region.{Region, feature, box, both, less, part, any_of, Has}
use Rattle.region_model.specs.Answers.{AreSides}
use Rattle.region_model.specs.PolygonCommands.{exactly, regions_at}
use Rattle.region_laws.specs.Regions.{Follows, FollowEach}

-- the table of the whole arcs of a snapped drawing, its faces, and places labelled by them
pub record IsWalked (d : Drawing) (arcs : List Path) (faces : FaceTable) (label : Place → ℕ) : Type 0 where
  pub paths : HasPaths (snapped d)
  pub table : AreArcsOf (snapped d) arcs
  pub built : IsBuiltOf arcs faces
  pub labelled : IsFaceOfPlace arcs faces label

-- of the faces of a table the set has those whose lists have n
abbrev pub HasFacesWith : FaceTable → List (List ℕ) → ℕ → List ℕ → Type 0
HasFacesWith faces lists n set = (k : ℕ) → k < faces.count → Contains set k ↔ Contains (list_at lists k) n

-- ---- laws of features and boxes

-- the faces whose holders have a feature follow the feature
abbrev pub FeaturesAreFollowed : Type 0
FeaturesAreFollowed = (d : Drawing) (arcs : List Path) (faces : FaceTable) (label : Place → ℕ) → IsWalked d arcs faces label → (labels : HolderTable) → AreHolders arcs (snapped d) faces labels →
    (n : ℕ) (set : List ℕ) → HasFacesWith faces labels.holders n set → Follows (snapped d) arcs label set (feature n)

-- and those that a box holds follow the box
abbrev pub BoxesAreFollowed : Type 0
BoxesAreFollowed = (d : Drawing) (arcs : List Path) (faces : FaceTable) (label : Place → ℕ) → IsWalked d arcs faces label → (labels : HolderTable) → AreHolders arcs (snapped d) faces labels →
    (n : ℕ) (set : List ℕ) → HasFacesWith faces labels.boxes n set → Follows (snapped d) arcs label set (box n)

-- ---- laws of sets

abbrev pub UnionsAreFollowed : Type 0
UnionsAreFollowed = (d : Drawing) (arcs : List Path) (label : Place → ℕ) (f g : List ℕ) (r s : Region) → Follows d arcs label f r → Follows d arcs label g s → Follows d arcs label (ascending nat_lt (f ++ g)) (any_of (r ∷ s ∷ []))

abbrev pub MeetsAreFollowed : Type 0
MeetsAreFollowed = (d : Drawing) (arcs : List Path) (label : Place → ℕ) (f g : List ℕ) (r s : Region) → Follows d arcs label f r → Follows d arcs label g s → Follows d arcs label (meet g f) (both r s)

abbrev pub RemaindersAreFollowed : Type 0
RemaindersAreFollowed = (d : Drawing) (arcs : List Path) (label : Place → ℕ) (f g : List ℕ) (r s : Region) → Follows d arcs label f r → Follows d arcs label g s → Follows d arcs label (minus g f) (less r s)

-- what is clipped by a source follows both, and what is erased the first less the source
abbrev pub ClippedSetsAreFollowed : Type 0
ClippedSetsAreFollowed = (d : Drawing) (arcs : List Path) (label : Place → ℕ) (sets : List (List ℕ)) (region : ℕ → Region) (source : List ℕ) (s : Region) → FollowEach d arcs label sets region → Follows d arcs label source s →
    FollowEach d arcs label (map (meet source) sets) (λ n. both (region n) s)

abbrev pub ErasedSetsAreFollowed : Type 0
ErasedSetsAreFollowed = (d : Drawing) (arcs : List Path) (label : Place → ℕ) (sets : List (List ℕ)) (region : ℕ → Region) (source : List ℕ) (s : Region) → FollowEach d arcs label sets region → Follows d arcs label source s →
    FollowEach d arcs label (map (minus source) sets) (λ n. less (region n) s)

-- what is dissolved follows any of the regions of the members of its group
abbrev pub DissolvedSetsAreFollowed : Type 0
DissolvedSetsAreFollowed = (d : Drawing) (arcs : List Path) (label : Place → ℕ) (sets : List (List ℕ)) (region : ℕ → Region) (groups : List (List ℕ)) → FollowEach d arcs label sets region → All (All (λ n. n < length sets)) groups →
    FollowEach d arcs label (map (union_of sets) groups) (λ g. any_of (regions_at region (slice_index_or groups g [])))

-- the numbers of the sets that rank before set n
abbrev pub before : OverlapRule → List ℤ → List (List ℕ) → ℕ → List ℕ
before rule areas sets n = filter (λ (m : ℕ). ranks_before rule m (area_of areas (set_at sets m)) n (area_of areas (set_at sets n))) (range_with_len 0 (length sets))

-- what is left of a set follows its region less any of those that rank before it
abbrev pub CleanedSetsAreFollowed : Type 0
CleanedSetsAreFollowed = (d : Drawing) (arcs : List Path) (label : Place → ℕ) (sets : List (List ℕ)) (region : ℕ → Region) (rule : OverlapRule) (areas : List ℤ) (cleaned : List (List ℕ)) → FollowEach d arcs label sets region →
    IsCleaned rule areas sets cleaned → FollowEach d arcs label cleaned (λ n. less (region n) (any_of (regions_at region (before rule areas sets n))))

-- ---- laws of parts

-- The sets are those of the parts of a region, in order: set j follows part j, each of these parts has a point, and
-- each point of the region is in one of them.
pub record FollowParts (d : Drawing) (arcs : List Path) (label : Place → ℕ) (parts : List (List ℕ)) (r : Region) : Type 0 where
  pub each : FollowEach d arcs label parts (λ j. part r j)
  pub some : (j : ℕ) → j < length parts → (z : RationalPoint) × IsOffLinks (links_of d) z × Has d arcs (part r j) z
  pub all : (z : RationalPoint) → IsOffLinks (links_of d) z → Has d arcs r z → (j : ℕ) × (j < length parts) × Has d arcs (part r j) z

-- the parts of a set are those of its region
abbrev pub PartsAreFollowed : Type 0
PartsAreFollowed = (d : Drawing) (arcs : List Path) (faces : FaceTable) (label : Place → ℕ) → IsWalked d arcs faces label → (set : List ℕ) → IsSetOf faces set → (r : Region) → Follows (snapped d) arcs label set r →
    (parts : List (List ℕ)) → AreParts faces set parts → FollowParts (snapped d) arcs label parts r

-- Items are, set by set, those of the parts of the regions; a set without faces, whose region has no point, stays one
-- item.
pub record FollowExploded (d : Drawing) (arcs : List Path) (label : Place → ℕ) (sets : List (List ℕ)) (region : ℕ → Region) (items : List PartItem) : Type 0 where
  pub pieces : List (List (List ℕ))
  pub each : length pieces ≡ length sets
  pub listed : items ≡ flat_map (λ (f : ℕ × List (List ℕ)). items_of f.0 f.1) (enumerate_from 0 pieces)
  pub empty : (n : ℕ) → n < length sets → set_at sets n ≡ [] → (slice_index_or pieces n [] ≡ [] ∷ []) × ((z : RationalPoint) → IsOffLinks (links_of d) z → Has d arcs (region n) z → ⊥)
  pub parts : (n : ℕ) → n < length sets → (set_at sets n ≡ [] → ⊥) → FollowParts d arcs label (slice_index_or pieces n []) (region n)

abbrev pub ExplodedSetsAreFollowed : Type 0
ExplodedSetsAreFollowed = (d : Drawing) (arcs : List Path) (faces : FaceTable) (label : Place → ℕ) → IsWalked d arcs faces label → (sets : List (List ℕ)) → All (IsSetOf faces) sets → (region : ℕ → Region) →
    FollowEach (snapped d) arcs label sets region → (items : List PartItem) → IsExploded faces sets items → FollowExploded (snapped d) arcs label sets region items

-- ---- laws of mosaics

-- it has a point exactly if the regions that have the point are those of the numbers
abbrev pub ExactlyHasPoints : Type 0
ExactlyHasPoints = (d : Drawing) (arcs : List Path) (region : ℕ → Region) (many : ℕ) (numbers : List ℕ) → (numbers ≡ [] → ⊥) → All (λ n. n < many) numbers → (z : RationalPoint) →
    Has d arcs (exactly region many numbers) z ↔ ((n : ℕ) → n < many → Contains numbers n ↔ Has d arcs (region n) z)

-- Items are, for each list of numbers that rise for which just the regions of these numbers have some point, in
-- lexicographic order, those of the parts of what they have.
pub record FollowMosaic (d : Drawing) (arcs : List Path) (label : Place → ℕ) (many : ℕ) (region : ℕ → Region) (items : List MosaicItem) : Type 0 where
  pub groups : List Group
  pub in_order : AreAscending groups
  pub listed : items ≡ items_of_groups groups
  pub some : (g : Group) → Contains groups g → g.ids ≡ [] → ⊥
  pub below : (g : Group) → Contains groups g → All (λ n. n < many) g.ids
  pub rising : (g : Group) → Contains groups g → IsStrictlyIncreasing g.ids
  pub parts : (g : Group) → Contains groups g → FollowParts d arcs label g.parts (exactly region many g.ids)
  pub not_empty : (g : Group) → Contains groups g → (z : RationalPoint) × IsOffLinks (links_of d) z × Has d arcs (exactly region many g.ids) z
  pub all : (numbers : List ℕ) → (numbers ≡ [] → ⊥) → All (λ n. n < many) numbers → IsStrictlyIncreasing numbers → (z : RationalPoint) → IsOffLinks (links_of d) z → Has d arcs (exactly region many numbers) z →
      (g : Group) × Contains groups g × (g.ids ≡ numbers)

abbrev pub MosaicsAreFollowed : Type 0
MosaicsAreFollowed = (d : Drawing) (arcs : List Path) (faces : FaceTable) (label : Place → ℕ) → IsWalked d arcs faces label → (sets : List (List ℕ)) → All (IsSetOf faces) sets → (region : ℕ → Region) →
    FollowEach (snapped d) arcs label sets region → (items : List MosaicItem) → IsMosaic faces sets items → FollowMosaic (snapped d) arcs label (length sets) region items

-- ---- the areas of regions

-- twice the area of a set of faces, as each face gives its own, is that within the boundary of its region: the links
-- with one side in the region alone, each directed with the region on its left
abbrev pub AreasAreThoseOfRegions : Type 0
AreasAreThoseOfRegions = (d : Drawing) (arcs : List Path) (faces : FaceTable) (label : Place → ℕ) → IsWalked d arcs faces label → (set : List ℕ) → IsStrictlyIncreasing set → IsSetOf faces set → (r : Region) →
    Follows (snapped d) arcs label set r → (left right : Segment → Bool) → AreSides (links_of (snapped d)) (Has (snapped d) arcs r) left right →
    area_of faces.areas set ≡ twice_area (boundary_by left right (links_of (snapped d)))
