-- The faces of a table as labels of the places of the plane.
use Rattle.std.specs.Prelude.{◌≡◌, ◌⊎◌, ◌↔◌, ℕ, ◌+◌, ◌<◌, Bool, true, false, cond, pos, ◌<ℤ◌, List, All, Contains, [], length, slice_index, slice_index_or}
use Rattle.plane_model.specs.Points.{GridPoint, RationalPoint, Segment, Path, at, step_x}
use Rattle.plane_model.specs.Arcs.{SignedArc, forward, backward}
use Rattle.plane_model.specs.Arrangement.{IsArrangement, IsDistinct}
use Rattle.plane_model.specs.Joined.{AreOfOneFace, IsFaceCount}
use Rattle.plane_model.specs.Drawing.{Drawing}
use Rattle.plane_model.specs.Rotation.{Dart}
use Rattle.plane_model.specs.Sees.{SeesLeft, SeesRight}
use Rattle.plane_model.specs.Snapped.{links_of, snapped}
use Rattle.plane_faces.specs.Around.{opposite}
use Rattle.plane_faces.specs.Labels.{IsFaceLabelling}
use Rattle.plane_faces.specs.Places.{Place, outside, left_of}
use Rattle.plane_faces.specs.Rings.{darts_of_path}
use Rattle.arc_table.specs.Along.{GoAlong}
use Rattle.arc_table.specs.Direction.{point_at}
use Rattle.arc_table.specs.WholeArcs.{IsWholeArc}
use Rattle.face_walk.specs.Crossings.{outer_of}
use Rattle.face_walk.specs.Places.{FaceTable, IsBuiltOf, IsFaceOver, face_left_of, place_of}

-- at most two links of S end at p
abbrev pub HasTwoAtMost : List Segment → GridPoint → Type 0
HasTwoAtMost S p = (one : Segment) × (another : Segment) × ((l : Segment) → Contains S l → (l.start ≡ p) ⊎ (l.stop ≡ p) → (l ≡ one) ⊎ (l ≡ another))

-- no vertex inside an arc has more links than two
abbrev pub AreFreeInside : List Segment → List Path → Type 0
AreFreeInside S arcs = (n k : ℕ) → n < length arcs → 0 < k → k + 1 < length (slice_index_or arcs n []) → HasTwoAtMost S (point_at (slice_index_or arcs n []) k)

-- f has at the places beside the arcs what g has at their numbers: left of each dart of an arc that of the place left
-- of the arc, and right of it that of the place right of the arc
pub record IsByNumber {A : Type 0} (arcs : List Path) (g : ℕ → A) (f : Place → A) : Type 0 where
  pub outside_all : f outside ≡ g 0
  pub left : (n : ℕ) → n < length arcs → All (λ d. f (left_of d) ≡ g (place_of (forward n))) (darts_of_path (slice_index_or arcs n []))
  pub right : (n : ℕ) → n < length arcs → All (λ d. f (left_of (opposite d)) ≡ g (place_of (backward n))) (darts_of_path (slice_index_or arcs n []))

-- the label of a place is its face
abbrev pub IsFaceOfPlace : List Path → FaceTable → (Place → ℕ) → Type 0
IsFaceOfPlace arcs faces label = IsByNumber arcs (λ n. slice_index faces.places n) label

-- ---- the face of a rational point

-- a dart along an arc, directed as the signed arc
abbrev pub directed_as : SignedArc → Dart → Dart
directed_as a e = cond a.is_reversed (opposite e) e

-- z sees the link from its left, or from its right
abbrev pub SeesSide : List Segment → Bool → Segment → RationalPoint → Type 0
SeesSide S true l z = SeesLeft S l z
SeesSide S false l z = SeesRight S l z

-- z sees a link of a signed arc from its left, and f is the face left of the arc
pub record SeesFace (S : List Segment) (arcs : List Path) (faces : FaceTable) (z : RationalPoint) (f : ℕ) : Type 0 where
  pub along : SignedArc
  pub there : along.arc < length arcs
  pub dart : Dart
  pub of_arc : Contains (darts_of_path (slice_index_or arcs along.arc [])) dart
  pub sees : SeesSide S (directed_as along dart).forward (directed_as along dart).link z
  pub face : face_left_of faces.places along ≡ f

-- z is a grid point that f is the face over
abbrev pub IsOverAt : FaceTable → RationalPoint → ℕ → Type 0
IsOverAt faces z f = (p : GridPoint) × (at p ≡ z) × IsFaceOver faces p f

-- z is left of all links, and f is the outer face
abbrev pub IsFarLeft : List Segment → FaceTable → RationalPoint → ℕ → Type 0
IsFarLeft S faces z f = ((l : Segment) → Contains S l → pos 0 <ℤ step_x z (at l.start)) × (outer_of faces ≡ f)

-- the point z shows the face f of a table
abbrev pub ShowsFace : List Segment → List Path → FaceTable → RationalPoint → ℕ → Type 0
ShowsFace S arcs faces z f = SeesFace S arcs faces z f ⊎ (IsOverAt faces z f ⊎ IsFarLeft S faces z f)

-- ---- laws

-- the places of the plane can be labelled so
abbrev pub EachTableHasLabels : Type 0
EachTableHasLabels = (S : List Segment) → IsArrangement S → (arcs : List Path) → GoAlong S arcs → (faces : FaceTable) → (label : Place → ℕ) × IsFaceOfPlace arcs faces label

-- the faces of a table of the arcs of an arrangement are the classes of the plane
abbrev pub FacesAreClasses : Type 0
FacesAreClasses = (S : List Segment) → IsArrangement S → (arcs : List Path) → All (λ arc. 1 < length arc) arcs → GoAlong S arcs → AreFreeInside S arcs →
    (faces : FaceTable) → IsBuiltOf arcs faces → (label : Place → ℕ) → IsFaceOfPlace arcs faces label → IsFaceLabelling S label

-- so two points have one face in the table exactly if they are of one face: no closed runs of links separate them
abbrev pub PointsHaveOneFace : Type 0
PointsHaveOneFace = (S : List Segment) → IsArrangement S → IsDistinct S → (arcs : List Path) → All (λ arc. 1 < length arc) arcs → GoAlong S arcs → AreFreeInside S arcs →
    (faces : FaceTable) → IsBuiltOf arcs faces → (p q : GridPoint) (f g : ℕ) → IsFaceOver faces p f → IsFaceOver faces q g → (f ≡ g) ↔ AreOfOneFace S (at p) (at q)

-- so it is in the table of the whole arcs of a snapped drawing
abbrev pub PointsOfADrawing : Type 0
PointsOfADrawing = (d : Drawing) → (arcs : List Path) → All (λ arc. 1 < length arc) arcs → GoAlong (links_of (snapped d)) arcs → All (IsWholeArc (snapped d)) arcs →
    (faces : FaceTable) → IsBuiltOf arcs faces → (p q : GridPoint) (f g : ℕ) → IsFaceOver faces p f → IsFaceOver faces q g → (f ≡ g) ↔ AreOfOneFace (links_of (snapped d)) (at p) (at q)

-- and so it is with all points that show a face there: that see a link of an arc, are points of the grid, or are left
-- of all links
abbrev pub FacesOfADrawing : Type 0
FacesOfADrawing = (d : Drawing) → (arcs : List Path) → All (λ arc. 1 < length arc) arcs → GoAlong (links_of (snapped d)) arcs → All (IsWholeArc (snapped d)) arcs →
    (faces : FaceTable) → IsBuiltOf arcs faces → (u v : RationalPoint) (f g : ℕ) → ShowsFace (links_of (snapped d)) arcs faces u f → ShowsFace (links_of (snapped d)) arcs faces v g →
    (f ≡ g) ↔ AreOfOneFace (links_of (snapped d)) u v

-- each face but the outer one is left of some signed arc
abbrev pub FacesHaveArcs : Type 0
FacesHaveArcs = (arcs : List Path) → (faces : FaceTable) → IsBuiltOf arcs faces → (f : ℕ) → f < faces.count →
    (f ≡ outer_of faces) ⊎ ((a : SignedArc) × (a.arc < length arcs) × (face_left_of faces.places a ≡ f))

-- and the count is the number of faces of the plane: each number below it is that of just one class of points, and each
-- class has one
abbrev pub CountIsExact : Type 0
CountIsExact = (d : Drawing) → (arcs : List Path) → All (λ arc. 1 < length arc) arcs → GoAlong (links_of (snapped d)) arcs → All (IsWholeArc (snapped d)) arcs →
    (faces : FaceTable) → IsBuiltOf arcs faces → IsFaceCount (links_of (snapped d)) faces.count
