-- What is inside a source: the features of a layer, or a box.
use Rattle.std.specs.Prelude.{◌≡◌, ◌↔◌, ℕ, ◌<◌, Bool, true, Some, List, [], ◌∷◌, Contains, slice_get}
use Rattle.plane_model.specs.Points.{GridPoint, RationalPoint, Segment, Path}
use Rattle.plane_model.specs.Arcs.{SignedArc}
use Rattle.plane_model.specs.Drawing.{Drawing, Polygon, vertices_of}
use Rattle.plane_model.specs.Parity.{feature_holds, rings_hold}
use Rattle.plane_model.specs.Rotation.{Dart}
use Rattle.plane_model.specs.Sees.{IsOffLinks}
use Rattle.plane_model.specs.Sides.{Points, IsInside}
use Rattle.plane_model.specs.Snapped.{links_of, snapped}
use Rattle.plane_faces.specs.Places.{Place}
use Rattle.face_walk.specs.Holders.{HolderTable, list_at}
use Rattle.face_walk.specs.Places.{FaceTable}
use Rattle.face_laws.specs.Faces.{IsFaceOfPlace}
use Rattle.line_ops.specs.Points.{IsInsideAt}
use Rattle.point_laws.specs.Sight.{PointsOf}
use Rattle.line_laws.specs.Lines.{AreArcsOfLines, AreCutBy, AreLaid, LeftSideIn, TestsInside}

-- the points that some feature of a layer holds: the layer has these numbers of features of the drawing
abbrev pub PointsOfLayer : List (List Polygon) → List ℕ → Points
PointsOfLayer features layer z = (number : ℕ) × Contains layer number × (feature : List Polygon) × (slice_get features number ≡ Some feature) × (feature_holds z feature ≡ true)

-- the points that a box holds, by its number
abbrev pub PointsOfBox : List Path → ℕ → Points
PointsOfBox boxes number z = (box : Path) × (slice_get boxes number ≡ Some box) × (rings_hold z (box ∷ []) ≡ true)

-- of `count` faces, the set has those that some feature of the layer holds
abbrev pub HasFacesOfLayer : ℕ → HolderTable → List ℕ → List ℕ → Type 0
HasFacesOfLayer count labels layer set = (f : ℕ) → f < count → Contains set f ↔ ((number : ℕ) × Contains layer number × Contains (list_at labels.holders f) number)

-- and those that the box holds
abbrev pub HasFacesOfBox : ℕ → HolderTable → ℕ → List ℕ → Type 0
HasFacesOfBox count labels number set = (f : ℕ) → f < count → Contains set f ↔ Contains (list_at labels.boxes f) number

-- ---- laws

-- the sides of links that belong to the points of such a set are those that belong to the points that some feature of
-- the layer holds
abbrev pub SidesOfLayers : Type 0
SidesOfLayers = (d : Drawing) (arcs : List Path) (faces : FaceTable) (labels : HolderTable) → AreLaid d arcs faces labels → (label : Place → ℕ) → IsFaceOfPlace arcs faces label →
    (layer set : List ℕ) → HasFacesOfLayer faces.count labels layer set → (e : Dart) → Contains (links_of (snapped d)) e.link →
    LeftSideIn (links_of (snapped d)) (PointsOf (links_of (snapped d)) label set) e ↔ LeftSideIn (links_of (snapped d)) (PointsOfLayer (snapped d).polygons layer) e

-- and those that belong to the points that the box holds
abbrev pub SidesOfBoxes : Type 0
SidesOfBoxes = (d : Drawing) (arcs : List Path) (faces : FaceTable) (labels : HolderTable) → AreLaid d arcs faces labels → (label : Place → ℕ) → IsFaceOfPlace arcs faces label →
    (number : ℕ) (set : List ℕ) → HasFacesOfBox faces.count labels number set → (e : Dart) → Contains (links_of (snapped d)) e.link →
    LeftSideIn (links_of (snapped d)) (PointsOf (links_of (snapped d)) label set) e ↔ LeftSideIn (links_of (snapped d)) (PointsOfBox (snapped d).boxes number) e

-- so line features cut by the faces of a layer are their maximal runs of steps along links that are inside the layer,
-- and of steps along links that are not
abbrev pub LinesCutByLayers : Type 0
LinesCutByLayers = (d : Drawing) (arcs : List Path) (faces : FaceTable) (labels : HolderTable) → AreLaid d arcs faces labels → (layer set : List ℕ) → HasFacesOfLayer faces.count labels layer set →
    (lines : List Path) (named : List (List SignedArc)) → AreArcsOfLines (snapped d) arcs lines named →
    (test : Segment → Bool) → TestsInside (links_of (snapped d)) (PointsOfLayer (snapped d).polygons layer) test → AreCutBy test arcs faces set lines named

-- and so it is with a box
abbrev pub LinesCutByBoxes : Type 0
LinesCutByBoxes = (d : Drawing) (arcs : List Path) (faces : FaceTable) (labels : HolderTable) → AreLaid d arcs faces labels → (number : ℕ) (set : List ℕ) → HasFacesOfBox faces.count labels number set →
    (lines : List Path) (named : List (List SignedArc)) → AreArcsOfLines (snapped d) arcs lines named →
    (test : Segment → Bool) → TestsInside (links_of (snapped d)) (PointsOfBox (snapped d).boxes number) test → AreCutBy test arcs faces set lines named

-- ---- points

-- off the links, the points of such a set are those that some feature of the layer holds
abbrev pub PointsAreOfLayers : Type 0
PointsAreOfLayers = (d : Drawing) (arcs : List Path) (faces : FaceTable) (labels : HolderTable) → AreLaid d arcs faces labels → (label : Place → ℕ) → IsFaceOfPlace arcs faces label →
    (layer set : List ℕ) → HasFacesOfLayer faces.count labels layer set → (z : RationalPoint) → IsOffLinks (links_of (snapped d)) z →
    PointsOf (links_of (snapped d)) label set z ↔ PointsOfLayer (snapped d).polygons layer z

-- and those that the box holds
abbrev pub PointsAreOfBoxes : Type 0
PointsAreOfBoxes = (d : Drawing) (arcs : List Path) (faces : FaceTable) (labels : HolderTable) → AreLaid d arcs faces labels → (label : Place → ℕ) → IsFaceOfPlace arcs faces label →
    (number : ℕ) (set : List ℕ) → HasFacesOfBox faces.count labels number set → (z : RationalPoint) → IsOffLinks (links_of (snapped d)) z →
    PointsOf (links_of (snapped d)) label set z ↔ PointsOfBox (snapped d).boxes number z

-- so a vertex of the drawing is inside the faces of a layer, as it is answered for it, exactly if some point that a
-- feature of the layer holds sees it
abbrev pub VerticesInsideLayers : Type 0
VerticesInsideLayers = (d : Drawing) (arcs : List Path) (faces : FaceTable) (labels : HolderTable) → AreLaid d arcs faces labels → (layer set : List ℕ) → HasFacesOfLayer faces.count labels layer set →
    (p : GridPoint) → Contains (vertices_of (snapped d)) p → (inside : Bool) → IsInsideAt arcs faces p set inside → (inside ≡ true) ↔ IsInside (links_of (snapped d)) (PointsOfLayer (snapped d).polygons layer) p

-- and so it is with a box
abbrev pub VerticesInsideBoxes : Type 0
VerticesInsideBoxes = (d : Drawing) (arcs : List Path) (faces : FaceTable) (labels : HolderTable) → AreLaid d arcs faces labels → (number : ℕ) (set : List ℕ) → HasFacesOfBox faces.count labels number set →
    (p : GridPoint) → Contains (vertices_of (snapped d)) p → (inside : Bool) → IsInsideAt arcs faces p set inside → (inside ≡ true) ↔ IsInside (links_of (snapped d)) (PointsOfBox (snapped d).boxes number) p
