-- What commands ask of regions, answered from the sets of faces that follow them.
use Rattle.std.specs.Prelude.{◌≡◌, ◌↔◌, ℕ, ◌<◌, Bool, true, nat_lt, List, [], All, length, map, slice_index_or}
use Rattle.std.specs.List.Sorted.{IsStrictlyIncreasing}
use Rattle.lists.specs.Lists.{ascending, joined_up}
use Rattle.plane_model.specs.Points.{GridPoint, Segment, Path}
use Rattle.plane_model.specs.Arcs.{SignedArc}
use Rattle.plane_model.specs.Drawing.{Drawing}
use Rattle.plane_model.specs.Snapped.{links_of, snapped}
use Rattle.plane_faces.specs.Places.{Place}
use Rattle.grid_base.specs.declared.kinds.OverlapRule.{OverlapRule}
use Rattle.face_walk.specs.Holders.{AreHolders, HolderTable}
use Rattle.face_walk.specs.Places.{FaceTable, IsBuiltOf}
use Rattle.face_sets.specs.Joined.{AreParts}
use Rattle.face_sets.specs.Sets.{IsSetOf}
use Rattle.ring_trace.specs.Traced.{UsesBoundary}
use Rattle.ring_trace.specs.Turns.{round_of}
use Rattle.part_laws.specs.Parts.{AreTraced}
use Rattle.region_ops.specs.Cleaned.{IsCleaned, area_of}
use Rattle.region_ops.specs.Exploded.{ArePieces}
use Rattle.region_ops.specs.Mosaic.{IsMosaic}
use Rattle.region_ops.specs.declared.item_lists.MosaicItem.{MosaicItem}
use Rattle.region_model.specs.Region.{Region, Regions, any_of, gap, part, Has}
use Rattle.region_model.specs.Answers as answers
use Rattle.region_model.specs.Answers.{Plane, Answers, AreSides, HasSome, PointsOf, is_empty}
use Rattle.region_model.specs.PolygonCommands.{cleaned, exactly, exploded, mosaic}
use Rattle.region_model.specs.Printed.{Fits}
use Rattle.region_laws.specs.Regions.{Follows, FollowEach}
use Rattle.region_laws.specs.Followed.{IsWalked}

-- the plane of a drawing, with these arcs
abbrev pub plane_with : Drawing → List Path → Plane
plane_with d arcs = record { drawing = snapped d; links = links_of (snapped d); arcs = arcs }

-- the answers tell which sides of links belong to the region
abbrev pub TellSides : Plane → Answers → Region → Type 0
TellSides P A r = AreSides P.links (PointsOf P r) (A.left r) (A.right r)

-- the sets of a list follow the regions of another, one by one
abbrev pub FollowInOrder : Drawing → List Path → (Place → ℕ) → List (List ℕ) → List Region → Type 0
FollowInOrder d arcs label sets regions = (length regions ≡ length sets) × FollowEach d arcs label sets (λ n. slice_index_or regions n (any_of []))

-- ---- laws

-- the faces of any set of a list follow any of the regions of these sets: so it is with a layer by which others are
-- clipped or erased
abbrev pub LayersAreFollowed : Type 0
LayersAreFollowed = (d : Drawing) (arcs : List Path) (label : Place → ℕ) (sets : List (List ℕ)) (regions : List Region) → FollowInOrder d arcs label sets regions → Follows d arcs label (ascending nat_lt (joined_up sets)) (any_of regions)

-- which sides of links belong to the region of a set can be told
abbrev pub SidesAreTold : Type 0
SidesAreTold = (d : Drawing) (arcs : List Path) (faces : FaceTable) (label : Place → ℕ) → IsWalked d arcs faces label → (set : List ℕ) (r : Region) → Follows (snapped d) arcs label set r →
    (left : Segment → Bool) × (right : Segment → Bool) × AreSides (links_of (snapped d)) (Has (snapped d) arcs r) left right

-- each set of faces has parts
abbrev pub PartsExist : Type 0
PartsExist = (arcs : List Path) (faces : FaceTable) → IsBuiltOf arcs faces → (set : List ℕ) → IsStrictlyIncreasing set → (parts : List (List ℕ)) × AreParts faces set parts

-- each region of a drawing, whatever it is made of, has a set of inner faces that follows it
abbrev pub RegionsHaveSets : Type 0
RegionsHaveSets = (d : Drawing) (arcs : List Path) (faces : FaceTable) (label : Place → ℕ) → IsWalked d arcs faces label → (labels : HolderTable) → AreHolders arcs (snapped d) faces labels →
    (r : Region) → (set : List ℕ) × IsStrictlyIncreasing set × IsSetOf faces set × Follows (snapped d) arcs label set r

-- the answers on sides, parts and gaps are right, for all regions
pub record TellRegions (P : Plane) (A : Answers) : Type 0 where
  pub sides : (r : Region) → TellSides P A r
  pub parts : (r : Region) (j : ℕ) → (j < A.parts r) ↔ HasSome P (part r j)
  pub gaps : (rs : Regions) (j : ℕ) → (j < A.gaps rs) ↔ HasSome P (gap rs j)

-- so there are such answers, whatever is answered of vertices
abbrev pub AnswersExist : Type 0
AnswersExist = (d : Drawing) (arcs : List Path) (faces : FaceTable) (label : Place → ℕ) → IsWalked d arcs faces label → (labels : HolderTable) → AreHolders arcs (snapped d) faces labels →
    (inside : Region → GridPoint → Bool) → (A : Answers) × (A.inside ≡ inside) × TellRegions (plane_with d arcs) A

-- where they are told, a set has no faces exactly if its region is empty
abbrev pub EmptinessIsTold : Type 0
EmptinessIsTold = (d : Drawing) (arcs : List Path) (faces : FaceTable) (label : Place → ℕ) → IsWalked d arcs faces label → (set : List ℕ) → IsSetOf faces set → (r : Region) → Follows (snapped d) arcs label set r →
    (A : Answers) → TellSides (plane_with d arcs) A r → (set ≡ []) ↔ (is_empty (plane_with d arcs) A r ≡ true)

-- and twice the area of the set is that of the region
abbrev pub AreasAreTold : Type 0
AreasAreTold = (d : Drawing) (arcs : List Path) (faces : FaceTable) (label : Place → ℕ) → IsWalked d arcs faces label → (set : List ℕ) → IsStrictlyIncreasing set → IsSetOf faces set → (r : Region) → Follows (snapped d) arcs label set r →
    (A : Answers) → TellSides (plane_with d arcs) A r → area_of faces.areas set ≡ answers.area_of (plane_with d arcs) A r

-- what is left of a set when overlaps are given away follows what is left of its region
abbrev pub CleanedAsTold : Type 0
CleanedAsTold = (d : Drawing) (arcs : List Path) (faces : FaceTable) (label : Place → ℕ) → IsWalked d arcs faces label → (sets : List (List ℕ)) → All IsStrictlyIncreasing sets → All (IsSetOf faces) sets → (region : ℕ → Region) →
    FollowEach (snapped d) arcs label sets region → (A : Answers) → ((n : ℕ) → n < length sets → TellSides (plane_with d arcs) A (region n)) →
    (rule : OverlapRule) (left : List (List ℕ)) → IsCleaned rule faces.areas sets left → FollowEach (snapped d) arcs label left (cleaned (plane_with d arcs) A rule region (length sets))

-- a number is below the count of the parts of a set exactly if the part of the region with this number has a point
abbrev pub PartsAreTold : Type 0
PartsAreTold = (d : Drawing) (arcs : List Path) (faces : FaceTable) (label : Place → ℕ) → IsWalked d arcs faces label → (set : List ℕ) → IsSetOf faces set → (r : Region) → Follows (snapped d) arcs label set r →
    (parts : List (List ℕ)) → AreParts faces set parts → (j : ℕ) → (j < length parts) ↔ HasSome (plane_with d arcs) (part r j)

-- where this is told of a region, the pieces of its set are in order those of the region: its parts, or itself where it
-- is empty
abbrev pub ExplodedAsTold : Type 0
ExplodedAsTold = (d : Drawing) (arcs : List Path) (faces : FaceTable) (label : Place → ℕ) → IsWalked d arcs faces label → (set : List ℕ) → IsSetOf faces set → (r : Region) → Follows (snapped d) arcs label set r →
    (A : Answers) → TellSides (plane_with d arcs) A r → ((j : ℕ) → (j < A.parts r) ↔ HasSome (plane_with d arcs) (part r j)) → (pieces : List (List ℕ)) → ArePieces faces set pieces →
    FollowInOrder (snapped d) arcs label pieces (exploded (plane_with d arcs) A r)

-- and the pieces of a mosaic are in order, with their lists of numbers, those that are made of the regions
abbrev pub MosaicAsTold : Type 0
MosaicAsTold = (d : Drawing) (arcs : List Path) (faces : FaceTable) (label : Place → ℕ) → IsWalked d arcs faces label → (sets : List (List ℕ)) → All (IsSetOf faces) sets → (region : ℕ → Region) →
    FollowEach (snapped d) arcs label sets region → (A : Answers) → ((numbers : List ℕ) → TellSides (plane_with d arcs) A (exactly region (length sets) numbers)) →
    ((numbers : List ℕ) (j : ℕ) → (j < A.parts (exactly region (length sets) numbers)) ↔ HasSome (plane_with d arcs) (part (exactly region (length sets) numbers) j)) → (items : List MosaicItem) → IsMosaic faces sets items →
    (map (λ (item : MosaicItem). item.ids) items ≡ map (λ (m : List ℕ × Region). m.0) (mosaic (plane_with d arcs) A region (length sets)))
    × FollowInOrder (snapped d) arcs label (map (λ (item : MosaicItem). item.set) items) (map (λ (m : List ℕ × Region). m.1) (mosaic (plane_with d arcs) A region (length sets)))

-- What is traced for the set of a region fits the region, part by part: all rings use its boundary once and those of a
-- polygon that of a part, each passes each of its vertices once, an exterior stands first and turns left, holes turn
-- right and stand in order, and each ring begins where its least arc does.
abbrev pub TracesFit : Type 0
TracesFit = (d : Drawing) (arcs : List Path) (faces : FaceTable) (label : Place → ℕ) → IsWalked d arcs faces label → (set : List ℕ) (parts : List (List ℕ)) (polygons : List (List (List SignedArc))) →
    AreTraced arcs faces set parts polygons → UsesBoundary faces.places (length arcs) set polygons → (r : Region) → Follows (snapped d) arcs label set r → (A : Answers) → TellSides (plane_with d arcs) A r →
    ((j : ℕ) → j < length parts → TellSides (plane_with d arcs) A (part r j)) → ((j : ℕ) → (j < A.parts r) ↔ HasSome (plane_with d arcs) (part r j)) →
    Fits (plane_with d arcs) A r (map (map (round_of arcs)) polygons)
