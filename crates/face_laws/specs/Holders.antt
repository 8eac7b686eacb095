-- Items that hold the faces of a table, and the parity of their links at points.
use Rattle.std.specs.Prelude.{◌≡◌, ◌↔◌, ℕ, ◌<◌, true, nat_eq, Some, List, [], ◌∷◌, All, Contains, length, map, slice_get, slice_index_or}
use Rattle.std.specs.List.{list_any}
use Rattle.plane_model.specs.Points.{GridPoint, Segment, Path, at, same_segment}
use Rattle.plane_model.specs.Arrangement.{IsArrangement, IsDistinct}
use Rattle.plane_model.specs.EvenList.{IsEvenListOf}
use Rattle.plane_model.specs.Joined.{links_of_arc}
use Rattle.plane_model.specs.Parity.{feature_holds, links_of_paths, odd, odd_count, rings_hold}
use Rattle.plane_model.specs.Drawing.{Drawing, Polygon}
use Rattle.plane_model.specs.Snapped.{snapped}
use Rattle.plane_model.specs.Arcs.{SignedArc, forward, backward}
use Rattle.plane_model.specs.Rotation.{Dart, odd_left_of, odd_right_of}
use Rattle.plane_faces.specs.Rings.{darts_of_path}
use Rattle.lists.specs.Lists.{joined_up}
use Rattle.grid_base.specs.Drawn.{HasPaths}
use Rattle.arc_table.specs.Along.{GoAlong}
use Rattle.arc_table.specs.PathArcs.{AreArcsOf}
use Rattle.face_walk.specs.Crossings.{AreCrossings, LeaveNone, outer_of}
use Rattle.face_walk.specs.Holders.{AreHeldBy, AreHolders, HolderTable, list_at, stands_oddly, steps_on}
use Rattle.face_walk.specs.Places.{FaceTable, IsBuiltOf, IsFaceOver, face_left_of}
use Rattle.face_walk.specs.declared.crossings.Crossing.{Crossing}
use Rattle.face_walk.specs.declared.ring_steps.RingStep.{RingStep}
use Rattle.face_laws.specs.Faces.{AreFreeInside, directed_as}

-- item i steps along an arc an odd number of times exactly where each link of the arc stands in L an odd number of
-- times
abbrev pub StepAlong : List Path → List RingStep → ℕ → List Segment → Type 0
StepAlong arcs steps i L = (n : ℕ) → n < length arcs → All (λ (l : Segment). odd_count (same_segment l) L ≡ odd_count (λ (s : RingStep). nat_eq i s.item) (steps_on steps n)) (links_of_arc arcs n)

-- the list has the items whose paths hold p by odd crossings
abbrev pub AreHeldAt : List (List Path) → List ℕ → GridPoint → Type 0
AreHeldAt items list p = (i : ℕ) → Contains list i ↔ ((paths : List Path) × (slice_get items i ≡ Some paths) × (rings_hold (at p) paths ≡ true))

-- the list has the items whose paths hold the left side of a dart: their links are odd on it
abbrev pub HoldLeftOf : List (List Path) → List ℕ → Dart → Type 0
HoldLeftOf items list side = (i : ℕ) → Contains list i ↔ ((paths : List Path) × (slice_get items i ≡ Some paths) × (odd_left_of (links_of_paths paths) side ≡ true))

-- the list has the features of which a polygon holds the left side of a dart
abbrev pub FeaturesHoldLeftOf : List (List Polygon) → List ℕ → Dart → Type 0
FeaturesHoldLeftOf features list side = (n : ℕ) → Contains list n
    ↔ ((feature : List Polygon) × (slice_get features n ≡ Some feature) × (list_any (λ (polygon : Polygon). odd_left_of (links_of_paths polygon) side) feature ≡ true))

-- ---- laws

-- An item is in the list of the face over a point exactly if an odd number of its links pass below the point: in a
-- table of the arcs of an arrangement, for lists that follow along crossings that leave no face out, and an item whose
-- links are an even list and whose steps are along them.
abbrev pub ItemsHoldByParity : Type 0
ItemsHoldByParity = (S : List Segment) → IsArrangement S → IsDistinct S → (arcs : List Path) → All (λ arc. 1 < length arc) arcs → GoAlong S arcs → AreFreeInside S arcs →
    (faces : FaceTable) → IsBuiltOf arcs faces → (crossings : List Crossing) → AreCrossings faces crossings → LeaveNone faces crossings →
    (steps : List RingStep) (held : List (List ℕ)) → AreHeldBy steps (outer_of faces) crossings held →
    (i : ℕ) (L : List Segment) → IsEvenListOf S L → StepAlong arcs steps i L →
    (p : GridPoint) (f : ℕ) → IsFaceOver faces p f → stands_oddly (list_at held f) i ≡ odd L (at p)

-- and in the list of the face beside an arc exactly if its links are odd on that side of each link of the arc
abbrev pub ItemsBesideArcs : Type 0
ItemsBesideArcs = (S : List Segment) → IsArrangement S → IsDistinct S → (arcs : List Path) → All (λ arc. 1 < length arc) arcs → GoAlong S arcs → AreFreeInside S arcs →
    (faces : FaceTable) → IsBuiltOf arcs faces → (crossings : List Crossing) → AreCrossings faces crossings → LeaveNone faces crossings →
    (steps : List RingStep) (held : List (List ℕ)) → AreHeldBy steps (outer_of faces) crossings held →
    (i : ℕ) (L : List Segment) → IsEvenListOf S L → StepAlong arcs steps i L →
    (n : ℕ) → n < length arcs → All (λ (d : Dart). (stands_oddly (list_at held (face_left_of faces.places (forward n))) i ≡ odd_left_of L d)
    × (stands_oddly (list_at held (face_left_of faces.places (backward n))) i ≡ odd_right_of L d)) (darts_of_path (slice_index_or arcs n []))

-- so in a table of the arcs of a snapped drawing the lists of the face over a point have just the polygons and the
-- boxes that hold the point
abbrev pub ItemsOfADrawing : Type 0
ItemsOfADrawing = (d : Drawing) → HasPaths (snapped d) → (arcs : List Path) → AreArcsOf (snapped d) arcs → (faces : FaceTable) → IsBuiltOf arcs faces →
    (labels : HolderTable) (h : AreHolders arcs (snapped d) faces labels) → (p : GridPoint) (f : ℕ) → IsFaceOver faces p f →
    AreHeldAt (joined_up (snapped d).polygons) (list_at h.polygons f) p × AreHeldAt (map (λ (path : Path). path ∷ []) (snapped d).boxes) (list_at labels.boxes f) p

-- and its holders are just the features of which a polygon holds the point
abbrev pub FeaturesOfADrawing : Type 0
FeaturesOfADrawing = (d : Drawing) → HasPaths (snapped d) → (arcs : List Path) → AreArcsOf (snapped d) arcs → (faces : FaceTable) → IsBuiltOf arcs faces →
    (labels : HolderTable) → AreHolders arcs (snapped d) faces labels → (p : GridPoint) (f : ℕ) → IsFaceOver faces p f → f < faces.count →
    (n : ℕ) → Contains (list_at labels.holders f) n ↔ ((feature : List Polygon) × (slice_get (snapped d).polygons n ≡ Some feature) × (feature_holds (at p) feature ≡ true))

-- beside each link of a signed arc, its lists are just the features and the boxes that hold the left side of the link
abbrev pub FeaturesBesideArcs : Type 0
FeaturesBesideArcs = (d : Drawing) → HasPaths (snapped d) → (arcs : List Path) → AreArcsOf (snapped d) arcs → (faces : FaceTable) → IsBuiltOf arcs faces →
    (labels : HolderTable) → AreHolders arcs (snapped d) faces labels → (a : SignedArc) → a.arc < length arcs → face_left_of faces.places a < faces.count →
    All (λ (e : Dart). FeaturesHoldLeftOf (snapped d).polygons (list_at labels.holders (face_left_of faces.places a)) (directed_as a e)
    × HoldLeftOf (map (λ (path : Path). path ∷ []) (snapped d).boxes) (list_at labels.boxes (face_left_of faces.places a)) (directed_as a e)) (darts_of_path (slice_index_or arcs a.arc []))
