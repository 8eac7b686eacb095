-- The arcs between regions of a list: by the regions that have the two sides of their links.
use Rattle.std.specs.Prelude.{◌≡◌, ◌≢◌, ◌↔◌, ℕ, ◌<◌, true, Some, List, [], All, Contains, filter, length, map, slice_get, slice_index_or}
use Rattle.std.specs.List.Sorted.{IsStrictlyIncreasing}
use Rattle.plane_model.specs.Points.{Segment, Path}
use Rattle.plane_model.specs.Drawing.{Drawing, Polygon}
use Rattle.plane_model.specs.Parity.{feature_holds}
use Rattle.plane_model.specs.Rotation.{Dart}
use Rattle.plane_model.specs.Sides.{Points}
use Rattle.plane_model.specs.Snapped.{links_of, snapped}
use Rattle.plane_faces.specs.Around.{opposite}
use Rattle.plane_faces.specs.Places.{Place}
use Rattle.plane_faces.specs.Rings.{darts_of_path}
use Rattle.face_walk.specs.Holders.{HolderTable, list_at}
use Rattle.face_walk.specs.Places.{FaceTable}
use Rattle.line_ops.specs.Sided.{has_both, left_sets, right_sets, sided_among}
use Rattle.line_ops.specs.declared.sides.SidedArc.{SidedArc}
use Rattle.point_laws.specs.Sight.{PointsOf}
use Rattle.line_laws.specs.Lines.{AreLabelled, AreLaid, LeftSideIn}

-- the points of a set of a list, by its number
abbrev pub PointsOfSet : List Segment → (Place → ℕ) → List (List ℕ) → ℕ → Points
PointsOfSet S label sets i z = (set : List ℕ) × (slice_get sets i ≡ Some set) × PointsOf S label set z

-- the points that a feature of a layer holds, by its number there: the layer has these numbers of features of the
-- drawing
abbrev pub PointsOfFeature : List (List Polygon) → List ℕ → ℕ → Points
PointsOfFeature features layer i z = (number : ℕ) × (slice_get layer i ≡ Some number) × (feature : List Polygon) × (slice_get features number ≡ Some feature) × (feature_holds z feature ≡ true)

-- the numbers, rising, of the regions that have the left side of a directed link
pub record AreAtSide (S : List Segment) (R : ℕ → Points) (d : Dart) (numbers : List ℕ) : Type 0 where
  pub rising : IsStrictlyIncreasing numbers
  pub each : (i : ℕ) → Contains numbers i ↔ LeftSideIn S (R i) d

-- the lists of sets at the two sides of an arc are those of the regions at the two sides of each of its links
abbrev pub SetsStandFor : List Segment → (ℕ → Points) → List Path → FaceTable → List (List ℕ) → Type 0
SetsStandFor S R arcs faces sets = (n : ℕ) → n < length arcs →
    All (λ (e : Dart). AreAtSide S R e (left_sets faces sets n) × AreAtSide S R (opposite e) (right_sets faces sets n)) (darts_of_path (slice_index_or arcs n []))

-- Arc n, with these lists at its sides, is among the arcs exactly if they differ, and stands there with the least
-- number of each; and it is an inner one exactly if, besides, neither is empty.
pub record IsSidedBy (sided : List SidedArc) (n : ℕ) (left right : List ℕ) : Type 0 where
  pub listed : Contains (map (λ (s : SidedArc). s.arc) sided) n ↔ (left ≢ right)
  pub least : (s : SidedArc) → Contains sided s → s.arc ≡ n → (s.left ≡ slice_get left 0) × (s.right ≡ slice_get right 0)
  pub inner : Contains (map (λ (s : SidedArc). s.arc) (filter has_both sided)) n ↔ ((left ≢ []) × (right ≢ []) × (left ≢ right))

-- the arcs stand once, rising, and just those whose links have different lists of regions at their two sides
pub record AreBetween (S : List Segment) (R : ℕ → Points) (arcs : List Path) (sided : List SidedArc) : Type 0 where
  pub once : IsStrictlyIncreasing (map (λ (s : SidedArc). s.arc) sided)
  pub inner_once : IsStrictlyIncreasing (map (λ (s : SidedArc). s.arc) (filter has_both sided))
  pub there : All (λ (s : SidedArc). s.arc < length arcs) sided
  pub by_sides : (n : ℕ) → n < length arcs → All (λ (e : Dart). (left right : List ℕ) → AreAtSide S R e left → AreAtSide S R (opposite e) right → IsSidedBy sided n left right) (darts_of_path (slice_index_or arcs n []))

-- the sets of a layer of features: of `count` faces, the set of a feature has those with the feature among their
-- holders
pub record AreFacesHeld (count : ℕ) (holders : List (List ℕ)) (layer : List ℕ) (sets : List (List ℕ)) : Type 0 where
  pub each : length sets ≡ length layer
  pub held : (i number : ℕ) (set : List ℕ) → slice_get layer i ≡ Some number → slice_get sets i ≡ Some set → (f : ℕ) → f < count → Contains set f ↔ Contains (list_at holders f) number

-- ---- laws

-- the sets of a list stand for their points
abbrev pub SetsStandForPoints : Type 0
SetsStandForPoints = (S : List Segment) (arcs : List Path) (faces : FaceTable) (label : Place → ℕ) → AreLabelled S arcs faces label → (sets : List (List ℕ)) → SetsStandFor S (PointsOfSet S label sets) arcs faces sets

-- the sets of the faces that features of a snapped drawing hold stand for the points that they hold
abbrev pub SetsStandForFeatures : Type 0
SetsStandForFeatures = (d : Drawing) (arcs : List Path) (faces : FaceTable) (labels : HolderTable) → AreLaid d arcs faces labels → (layer : List ℕ) (sets : List (List ℕ)) → AreFacesHeld faces.count labels.holders layer sets →
    SetsStandFor (links_of (snapped d)) (PointsOfFeature (snapped d).polygons layer) arcs faces sets

-- so the arcs whose two sides are in different sets are those between the points of the sets
abbrev pub ArcsBetweenSets : Type 0
ArcsBetweenSets = (S : List Segment) (arcs : List Path) (faces : FaceTable) (label : Place → ℕ) → AreLabelled S arcs faces label → (sets : List (List ℕ)) →
    AreBetween S (PointsOfSet S label sets) arcs (sided_among faces sets (length arcs))

-- and for features of a snapped drawing they are the arcs for which the lists of the features that have the left and
-- the right side differ, and the inner ones those for which, besides, neither list is empty
abbrev pub ArcsBetweenFeatures : Type 0
ArcsBetweenFeatures = (d : Drawing) (arcs : List Path) (faces : FaceTable) (labels : HolderTable) → AreLaid d arcs faces labels → (layer : List ℕ) (sets : List (List ℕ)) → AreFacesHeld faces.count labels.holders layer sets →
    AreBetween (links_of (snapped d)) (PointsOfFeature (snapped d).polygons layer) arcs (sided_among faces sets (length arcs))
