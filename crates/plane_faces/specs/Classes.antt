-- Faces, and the parts of a set of faces, are the classes of points that no closed runs separate.
use Rattle.std.specs.Prelude.{◌≡◌, ◌↔◌, ℕ, Bool, true, false, List, [], ◌∷◌, Contains}
use Rattle.plane_model.specs.Points.{RationalPoint, Segment, Path}
use Rattle.plane_model.specs.Arrangement.{IsArrangement, IsDistinct}
use Rattle.plane_model.specs.Drawing.{Drawing, Polygon}
use Rattle.plane_model.specs.Snapped.{snapped, links_of}
use Rattle.plane_model.specs.SnappedRings.{HasClosedRings}
use Rattle.plane_model.specs.Parity.{rings_hold, feature_holds}
use Rattle.plane_model.specs.Sides.{Points, LeftIn, RightIn}
use Rattle.plane_model.specs.Joined.{AreOfOneFace, AreBoundaryLinks, AreJoinedIn}
use Rattle.plane_faces.specs.Places.{Place, outside, left_side, right_side, IsPlaceOf, AgreesWherePlacesMeet, border}
use Rattle.plane_faces.specs.Labels.{IsFaceLabelling, IsPartLabelling, among}

-- the points at whose places f holds
abbrev pub PointsWhere : List Segment → (Place → Bool) → Points
PointsWhere S f z = (a : Place) × IsPlaceOf S z a × (f a ≡ true)

-- ---- laws

-- two points have one label exactly if they are of one face
abbrev pub LabelsAreFaces : Type 0
LabelsAreFaces = (S : List Segment) → IsArrangement S → IsDistinct S → (label : Place → ℕ) → IsFaceLabelling S label →
    (u v : RationalPoint) (a b : Place) → IsPlaceOf S u a → IsPlaceOf S v b → (label a ≡ label b) ↔ AreOfOneFace S u v

-- so in a snapped drawing points of one label are held by the same features and boxes
abbrev pub LabelsHaveOneListOfHolders : Type 0
LabelsHaveOneListOfHolders = (d : Drawing) → HasClosedRings d → (label : Place → ℕ) → IsFaceLabelling (links_of (snapped d)) label →
    (u v : RationalPoint) (a b : Place) → IsPlaceOf (links_of (snapped d)) u a → IsPlaceOf (links_of (snapped d)) v b → label a ≡ label b →
    ((feature : List Polygon) → Contains (snapped d).polygons feature → feature_holds u feature ≡ feature_holds v feature)
    × ((box : Path) → Contains (snapped d).boxes box → rings_hold u (box ∷ []) ≡ rings_hold v (box ∷ []))

-- the sides of a link that belong to the points of a test are those where the test holds
abbrev pub SidesAreTested : Type 0
SidesAreTested = (S : List Segment) → IsArrangement S → IsDistinct S → (f : Place → Bool) → AgreesWherePlacesMeet S f → (l : Segment) → Contains S l →
    (LeftIn S (PointsWhere S f) l ↔ (f (left_side l) ≡ true)) × (RightIn S (PointsWhere S f) l ↔ (f (right_side l) ≡ true))

-- so its border is the boundary of its points
abbrev pub BordersAreBoundaries : Type 0
BordersAreBoundaries = (S : List Segment) → IsArrangement S → IsDistinct S → (f : Place → Bool) → AgreesWherePlacesMeet S f →
    AreBoundaryLinks S (PointsWhere S f) (border f S)

-- two points of a set of faces are in one part exactly if they are joined in it
abbrev pub PartsAreJoined : Type 0
PartsAreJoined = (S : List Segment) → IsArrangement S → IsDistinct S → (label : Place → ℕ) → IsFaceLabelling S label → (F : ℕ → Bool) → F (label outside) ≡ false →
    (part : ℕ → ℕ) → IsPartLabelling S label F part → (u v : RationalPoint) (a b : Place) → IsPlaceOf S u a → IsPlaceOf S v b → among label F a ≡ true → among label F b ≡ true →
    (part (label a) ≡ part (label b)) ↔ AreJoinedIn S (PointsWhere S (among label F)) u v
