-- What a grid point is inside, by the rational points that see it.
use Rattle.std.specs.Prelude.{◌≡◌, ◌↔◌, ℕ, ◌<◌, Bool, true, List, All, Contains, None, length}
use Rattle.plane_model.specs.Points.{GridPoint, RationalPoint, Segment, Path, at}
use Rattle.plane_model.specs.Arrangement.{IsArrangement, IsDistinct}
use Rattle.plane_model.specs.Drawing.{Drawing, vertices_of}
use Rattle.plane_model.specs.Joined.{AreOfOneFace}
use Rattle.plane_model.specs.Sees.{IsOffLinks, SeesPoint}
use Rattle.plane_model.specs.Sides.{Points, IsInside}
use Rattle.plane_model.specs.Snapped.{links_of, snapped}
use Rattle.plane_model.specs.Rotation.{Dart, tail}
use Rattle.plane_faces.specs.Places.{Place, left_of, IsPlaceOf, AgreesWherePlacesMeet}
use Rattle.arc_table.specs.Along.{GoAlong}
use Rattle.arc_table.specs.Lookup.{IsArcAt, IsLeastAt}
use Rattle.arc_table.specs.WholeArcs.{IsWholeArc}
use Rattle.face_walk.specs.Places.{FaceTable, IsBuiltOf, IsFaceOver}
use Rattle.face_laws.specs.Faces.{AreFreeInside, IsFaceOfPlace}
use Rattle.line_ops.specs.Points.{IsInsideAt, IsNode}

-- the rational points off the links whose faces are in the set
abbrev pub PointsOf : List Segment → (Place → ℕ) → List ℕ → Points
PointsOf S label set z = IsOffLinks S z × ((a : Place) × IsPlaceOf S z a × Contains set (label a))

-- ---- laws

-- what sees a point that lies on no link is of one face with it: no closed runs of links separate the two
abbrev pub SeenFromOneFace : Type 0
SeenFromOneFace = (S : List Segment) → IsArrangement S → (p : GridPoint) → IsOffLinks S (at p) → (z : RationalPoint) → SeesPoint S p z → AreOfOneFace S z (at p)

-- some point, off the links, sees a point that lies on no link
abbrev pub FreePointsAreSeen : Type 0
FreePointsAreSeen = (S : List Segment) → IsArrangement S → (p : GridPoint) → IsOffLinks S (at p) → (z : RationalPoint) × SeesPoint S p z × IsOffLinks S z

-- so a point on no link is inside a set of faces exactly if its own face is in the set
abbrev pub FreePointsAreInside : Type 0
FreePointsAreInside = (S : List Segment) → IsArrangement S → IsDistinct S → (arcs : List Path) → All (λ arc. 1 < length arc) arcs → GoAlong S arcs → AreFreeInside S arcs →
    (faces : FaceTable) → IsBuiltOf arcs faces → (label : Place → ℕ) → IsFaceOfPlace arcs faces label → (set : List ℕ) → (p : GridPoint) → IsOffLinks S (at p) →
    (f : ℕ) → IsFaceOver faces p f → IsInside S (PointsOf S label set) p ↔ Contains set f

-- so it is in the table of the whole arcs of a snapped drawing: a vertex of the drawing that no arc has is inside a
-- set, as it is answered for it, exactly if some point of the set sees it
abbrev pub FreePointsOfADrawing : Type 0
FreePointsOfADrawing = (d : Drawing) → (arcs : List Path) → All (λ arc. 1 < length arc) arcs → GoAlong (links_of (snapped d)) arcs → All (IsWholeArc (snapped d)) arcs →
    (faces : FaceTable) → IsBuiltOf arcs faces → (label : Place → ℕ) → IsFaceOfPlace arcs faces label → (set : List ℕ) → (p : GridPoint) → Contains (vertices_of (snapped d)) p → IsArcAt arcs p None →
    (inside : Bool) → IsInsideAt arcs faces p set inside → (inside ≡ true) ↔ IsInside (links_of (snapped d)) (PointsOf (links_of (snapped d)) label set) p

-- ---- vertices of links

-- what sees an end of a link has the label of a sector there: that on the left of a link directed away from it
abbrev pub SeenFromSectors : Type 0
SeenFromSectors = (S : List Segment) → IsArrangement S → IsDistinct S → (label : Place → ℕ) → AgreesWherePlacesMeet S label → (d : Dart) → Contains S d.link → (z : RationalPoint) → SeesPoint S (tail d) z →
    (a : Place) → IsPlaceOf S z a → (e : Dart) × Contains S e.link × (tail e ≡ tail d) × (label a ≡ label (left_of e))

-- each sector has a point, off the links, that sees the vertex: its label is that of the sector, on the left of a link
-- directed away from the vertex
abbrev pub SectorsAreSeen : Type 0
SectorsAreSeen = (S : List Segment) → IsArrangement S → IsDistinct S → (d : Dart) → Contains S d.link →
    (z : RationalPoint) × SeesPoint S (tail d) z × IsOffLinks S z × ((label : Place → ℕ) → AgreesWherePlacesMeet S label → (a : Place) → IsPlaceOf S z a → label a ≡ label (left_of d))

-- so a node that some point of a set sees is inside the set, as it is answered for it
abbrev pub SeenNodesAreInside : Type 0
SeenNodesAreInside = (S : List Segment) → IsArrangement S → IsDistinct S → (arcs : List Path) → All (λ arc. 1 < length arc) arcs → GoAlong S arcs → AreFreeInside S arcs →
    (faces : FaceTable) → IsBuiltOf arcs faces → (label : Place → ℕ) → IsFaceOfPlace arcs faces label → (set : List ℕ) → (p : GridPoint) → IsNode arcs p →
    (inside : Bool) → IsInsideAt arcs faces p set inside → IsInside S (PointsOf S label set) p → inside ≡ true

-- and some point of the set sees each node that is inside it, as it is answered for it
abbrev pub NodesAreSeen : Type 0
NodesAreSeen = (S : List Segment) → IsArrangement S → IsDistinct S → (arcs : List Path) → All (λ arc. 1 < length arc) arcs → GoAlong S arcs → AreFreeInside S arcs →
    (faces : FaceTable) → IsBuiltOf arcs faces → (label : Place → ℕ) → IsFaceOfPlace arcs faces label → (set : List ℕ) → (p : GridPoint) → IsNode arcs p →
    (inside : Bool) → IsInsideAt arcs faces p set inside → inside ≡ true → IsInside S (PointsOf S label set) p

-- so a node is inside a set, as it is answered for it, exactly if some point of the set sees it
abbrev pub NodesAreInside : Type 0
NodesAreInside = (S : List Segment) → IsArrangement S → IsDistinct S → (arcs : List Path) → All (λ arc. 1 < length arc) arcs → GoAlong S arcs → AreFreeInside S arcs →
    (faces : FaceTable) → IsBuiltOf arcs faces → (label : Place → ℕ) → IsFaceOfPlace arcs faces label → (set : List ℕ) → (p : GridPoint) → IsNode arcs p →
    (inside : Bool) → IsInsideAt arcs faces p set inside → (inside ≡ true) ↔ IsInside S (PointsOf S label set) p

-- so it is in the table of the whole arcs of a snapped drawing
abbrev pub NodesOfADrawing : Type 0
NodesOfADrawing = (d : Drawing) → (arcs : List Path) → All (λ arc. 1 < length arc) arcs → GoAlong (links_of (snapped d)) arcs → All (IsWholeArc (snapped d)) arcs →
    (faces : FaceTable) → IsBuiltOf arcs faces → (label : Place → ℕ) → IsFaceOfPlace arcs faces label → (set : List ℕ) → (p : GridPoint) → IsNode arcs p →
    (inside : Bool) → IsInsideAt arcs faces p set inside → (inside ≡ true) ↔ IsInside (links_of (snapped d)) (PointsOf (links_of (snapped d)) label set) p

-- a vertex inside an arc is inside a set, as it is answered for it, exactly if some point of the set sees it
abbrev pub InnerVerticesAreInside : Type 0
InnerVerticesAreInside = (S : List Segment) → IsArrangement S → IsDistinct S → (arcs : List Path) → All (λ arc. 1 < length arc) arcs → GoAlong S arcs → AreFreeInside S arcs →
    (faces : FaceTable) → IsBuiltOf arcs faces → (label : Place → ℕ) → IsFaceOfPlace arcs faces label → (set : List ℕ) → (p : GridPoint) → (IsNode arcs p → ⊥) → (n : ℕ) → IsLeastAt arcs p n →
    (inside : Bool) → IsInsideAt arcs faces p set inside → (inside ≡ true) ↔ IsInside S (PointsOf S label set) p

-- ---- all vertices

-- each vertex of a snapped drawing is inside a set of faces of its whole arcs, as it is answered for it, exactly if
-- some point of the set sees it: whether it is a node, or inside an arc, or on no arc
abbrev pub VerticesOfADrawing : Type 0
VerticesOfADrawing = (d : Drawing) → (arcs : List Path) → All (λ arc. 1 < length arc) arcs → GoAlong (links_of (snapped d)) arcs → All (IsWholeArc (snapped d)) arcs →
    (faces : FaceTable) → IsBuiltOf arcs faces → (label : Place → ℕ) → IsFaceOfPlace arcs faces label → (set : List ℕ) → (p : GridPoint) → Contains (vertices_of (snapped d)) p →
    (inside : Bool) → IsInsideAt arcs faces p set inside → (inside ≡ true) ↔ IsInside (links_of (snapped d)) (PointsOf (links_of (snapped d)) label set) p
