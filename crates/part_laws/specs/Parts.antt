-- The parts of a set of faces as parts of the plane, and what their traced rings hold.
use Rattle.std.specs.Prelude.{◌≡◌, ◌≢◌, ◌↔◌, true, false, ℕ, ◌<◌, ◌≤◌, pos, ◌<ℤ◌, nat_eq, List, [], ◌∷◌, All, AllPairs, Contains, length, map, slice_index_or}
use Rattle.lists.specs.Lists.{has, joined_up, place_of}
use Rattle.plane_model.specs.Points.{GridPoint, RationalPoint, Segment, Path, at}
use Rattle.plane_model.specs.Arcs.{SignedArc}
use Rattle.plane_model.specs.Arrangement.{IsArrangement, IsDistinct}
use Rattle.plane_model.specs.Drawing.{Drawing}
use Rattle.plane_model.specs.Joined.{AreJoinedIn}
use Rattle.plane_model.specs.Parity.{odd, rings_hold}
use Rattle.plane_model.specs.Snapped.{links_of, snapped}
use Rattle.plane_model.specs.Rings.{FitsPart, UsesOnce, turn_at_least}
use Rattle.plane_faces.specs.Classes.{PointsWhere}
use Rattle.plane_faces.specs.Labels.{IsPartLabelling}
use Rattle.plane_faces.specs.Places.{Place, IsPlaceOf}
use Rattle.plane_faces.specs.Rings.{IsPolygon, IsRing, links_of_path}
use Rattle.plane_faces.specs.UsedOnce.{border_steps}
use Rattle.arc_table.specs.Along.{GoAlong}
use Rattle.arc_table.specs.Around.{start_of}
use Rattle.arc_table.specs.WholeArcs.{IsWholeArc}
use Rattle.face_walk.specs.Places.{FaceTable, IsBuiltOf, IsFaceOver}
use Rattle.face_laws.specs.Faces.{AreFreeInside, IsFaceOfPlace}
use Rattle.face_sets.specs.Boundary.{IsOnBoundary}
use Rattle.face_sets.specs.Joined.{AreParts}
use Rattle.ring_trace.specs.Pairing.{stop_of}
use Rattle.face_sets.specs.Sets.{IsSetOf}
use Rattle.ring_trace.specs.Traced.{BeginsWithLeast, UseParts, UsesBoundary, bounded, is_of_boundary, once_if, times_round}
use Rattle.ring_trace.specs.Turns.{MayStandBefore, first_number, round_of}
use Rattle.ring_trace.specs.Ways.{IsSimpleRing}

-- where the first part stands that has the face, or the count of the parts
abbrev pub number_of : List (List ℕ) → ℕ → ℕ
number_of parts k = place_of (λ (part : List ℕ). has nat_eq part k) parts

-- The first ring of a polygon is its exterior, which turns left at its least vertex, the others are holes, which turn
-- right, and the holes stand in the order of the arcs that they begin with.
pub record HasExteriorFirst (arcs : List Path) (polygon : List (List SignedArc)) : Type 0 where
  pub exterior : List SignedArc
  pub holes : List (List SignedArc)
  pub are : polygon ≡ exterior ∷ holes
  pub exterior_turns_left : pos 0 <ℤ turn_at_least (round_of arcs exterior)
  pub holes_turn_right : All (λ hole. turn_at_least (round_of arcs hole) <ℤ pos 0) holes
  pub in_order : AllPairs (λ g h. first_number g ≤ first_number h) holes

-- z is inside the first ring of a polygon, by its links, and in no other
abbrev pub IsWithin : List Path → List (List SignedArc) → RationalPoint → Type 0
IsWithin arcs [] z = ⊥
IsWithin arcs (exterior ∷ holes) z = (odd (links_of_path (round_of arcs exterior)) z ≡ true) × All (λ hole. odd (links_of_path (round_of arcs hole)) z ≡ false) holes

-- it is within one of the polygons
abbrev pub IsInSome : List Path → List (List (List SignedArc)) → RationalPoint → Type 0
IsInSome arcs polygons z = (k : ℕ) × (k < length polygons) × IsWithin arcs (slice_index_or polygons k []) z

-- one of the polygons has both points in it
abbrev pub AreInOne : List Path → List (List (List SignedArc)) → RationalPoint → RationalPoint → Type 0
AreInOne arcs polygons u v = (k : ℕ) × (k < length polygons) × IsWithin arcs (slice_index_or polygons k []) u × IsWithin arcs (slice_index_or polygons k []) v

-- the faces of a table of arcs that go along the links of an arrangement
pub record AreFacesOf (S : List Segment) (arcs : List Path) (faces : FaceTable) : Type 0 where
  pub arrangement : IsArrangement S
  pub distinct : IsDistinct S
  pub long : All (λ arc. 1 < length arc) arcs
  pub along : GoAlong S arcs
  pub free : AreFreeInside S arcs
  pub built : IsBuiltOf arcs faces

-- polygons as a trace answers them for a set of faces and its parts
pub record AreTraced (arcs : List Path) (faces : FaceTable) (set : List ℕ) (parts : List (List ℕ)) (polygons : List (List (List SignedArc))) : Type 0 where
  pub inner : IsSetOf faces set
  pub parted : AreParts faces set parts
  pub there : All (All (All (λ a. a.arc < length arcs))) polygons
  pub least_first : All (All BeginsWithLeast) polygons
  pub simple : All (All (IsSimpleRing (start_of arcs) (stop_of arcs))) polygons
  pub in_order : All (AllPairs (MayStandBefore arcs)) polygons
  pub used : UseParts faces.places (length arcs) parts polygons

-- ---- laws

-- labels of places by faces, numbered by the parts of a set of faces, number the parts of the region of these faces
abbrev pub PartsAreClasses : Type 0
PartsAreClasses = (S : List Segment) → IsArrangement S → (arcs : List Path) → All (λ arc. 1 < length arc) arcs → GoAlong S arcs → (faces : FaceTable) → IsBuiltOf arcs faces →
    (label : Place → ℕ) → IsFaceOfPlace arcs faces label → (set : List ℕ) → (parts : List (List ℕ)) → AreParts faces set parts → IsPartLabelling S label (has nat_eq set) (number_of parts)

-- a closed run of signed arcs of which no two start at one vertex, and no two are of one arc, goes round a path that
-- passes each of its points once
abbrev pub RingsGoRound : Type 0
RingsGoRound = (S : List Segment) → IsArrangement S → (arcs : List Path) → All (λ arc. 1 < length arc) arcs → GoAlong S arcs → AreFreeInside S arcs → (ring : List SignedArc) → 0 < length ring →
    All (λ a. a.arc < length arcs) ring → IsSimpleRing (start_of arcs) (stop_of arcs) ring → AllPairs (λ a b. a.arc ≢ b.arc) ring → IsRing (round_of arcs ring)

-- The rings of a part: closed runs of signed arcs, no two of a run from one vertex, which together use each signed arc
-- of the boundary of the part once and no other. They are an exterior, which turns left at its least vertex, and holes,
-- which turn right, and a point is in the part just where it is inside the exterior and in no hole.
abbrev pub PolygonsHaveExteriors : Type 0
PolygonsHaveExteriors = (S : List Segment) → IsArrangement S → IsDistinct S → (arcs : List Path) → All (λ arc. 1 < length arc) arcs → GoAlong S arcs → AreFreeInside S arcs → (faces : FaceTable) → IsBuiltOf arcs faces →
    (label : Place → ℕ) → IsFaceOfPlace arcs faces label → (set : List ℕ) → IsSetOf faces set → (parts : List (List ℕ)) → AreParts faces set parts → (n : ℕ) → n < length parts → (polygon : List (List SignedArc)) →
    All (All (λ a. a.arc < length arcs)) polygon → All (λ ring. 0 < length ring) polygon → All (IsSimpleRing (start_of arcs) (stop_of arcs)) polygon →
    ((a : SignedArc) → times_round a polygon ≡ once_if (is_of_boundary faces.places (length arcs) (slice_index_or parts n []) a)) → (a : SignedArc) → IsOnBoundary faces (slice_index_or parts n []) a →
    IsPolygon S (λ place. has nat_eq (slice_index_or parts n []) (label place)) (map (round_of arcs) polygon)

-- Polygons of a set, as its trace answers them: for each part with a boundary, in order, one exterior and then its
-- holes, which together hold the part.
abbrev pub TracedPolygonsHaveExteriors : Type 0
TracedPolygonsHaveExteriors = (S : List Segment) → IsArrangement S → IsDistinct S → (arcs : List Path) → All (λ arc. 1 < length arc) arcs → GoAlong S arcs → AreFreeInside S arcs → (faces : FaceTable) → IsBuiltOf arcs faces →
    (label : Place → ℕ) → IsFaceOfPlace arcs faces label → (set : List ℕ) → IsSetOf faces set → (parts : List (List ℕ)) → AreParts faces set parts → (polygons : List (List (List SignedArc))) →
    All (All (All (λ a. a.arc < length arcs))) polygons → All (All BeginsWithLeast) polygons → All (All (IsSimpleRing (start_of arcs) (stop_of arcs))) polygons → All (AllPairs (MayStandBefore arcs)) polygons →
    UseParts faces.places (length arcs) parts polygons → (k : ℕ) → k < length polygons →
    HasExteriorFirst arcs (slice_index_or polygons k []) × IsPolygon S (λ place. has nat_eq (slice_index_or (bounded faces.places (length arcs) parts) k []) (label place)) (map (round_of arcs) (slice_index_or polygons k []))

-- So it is in the table of the whole arcs of a snapped drawing: a grid point is within a polygon just where its face is
-- in the part.
abbrev pub TracedPolygonsOfADrawing : Type 0
TracedPolygonsOfADrawing = (d : Drawing) → (arcs : List Path) → All (λ arc. 1 < length arc) arcs → GoAlong (links_of (snapped d)) arcs → All (IsWholeArc (snapped d)) arcs → (faces : FaceTable) → IsBuiltOf arcs faces →
    (set : List ℕ) → IsSetOf faces set → (parts : List (List ℕ)) → AreParts faces set parts → (polygons : List (List (List SignedArc))) →
    All (All (All (λ a. a.arc < length arcs))) polygons → All (All BeginsWithLeast) polygons → All (All (IsSimpleRing (start_of arcs) (stop_of arcs))) polygons → All (AllPairs (MayStandBefore arcs)) polygons →
    UseParts faces.places (length arcs) parts polygons → (k : ℕ) → k < length polygons →
    HasExteriorFirst arcs (slice_index_or polygons k []) ×
    ((p : GridPoint) (f : ℕ) → IsFaceOver faces p f → Contains (slice_index_or (bounded faces.places (length arcs) parts) k []) f ↔ IsWithin arcs (slice_index_or polygons k []) (at p))

-- Each part of a set without the outer face has an arc in its boundary. So no part is left out, and a trace has as many
-- polygons as there are parts.
abbrev pub PartsHaveBoundaries : Type 0
PartsHaveBoundaries = (S : List Segment) (arcs : List Path) (faces : FaceTable) → AreFacesOf S arcs faces → (set : List ℕ) → IsSetOf faces set → (parts : List (List ℕ)) → AreParts faces set parts →
    All (λ part. (a : SignedArc) × IsOnBoundary faces part a) parts × (bounded faces.places (length arcs) parts ≡ parts)
    × ((polygons : List (List (List SignedArc))) → UseParts faces.places (length arcs) parts polygons → length polygons ≡ length parts)

-- no point is within two traced polygons
abbrev pub PolygonsAreApart : Type 0
PolygonsAreApart = (S : List Segment) (arcs : List Path) (faces : FaceTable) → AreFacesOf S arcs faces → (set : List ℕ) (parts : List (List ℕ)) (polygons : List (List (List SignedArc))) → AreTraced arcs faces set parts polygons →
    (i j : ℕ) → i < length polygons → j < length polygons → (z : RationalPoint) → IsWithin arcs (slice_index_or polygons i []) z → IsWithin arcs (slice_index_or polygons j []) z → i ≡ j

-- a point is within some traced polygon exactly if its face is in the set
abbrev pub PolygonsHoldTheSet : Type 0
PolygonsHoldTheSet = (S : List Segment) (arcs : List Path) (faces : FaceTable) → AreFacesOf S arcs faces → (set : List ℕ) (parts : List (List ℕ)) (polygons : List (List (List SignedArc))) → AreTraced arcs faces set parts polygons →
    (label : Place → ℕ) → IsFaceOfPlace arcs faces label → (z : RationalPoint) (a : Place) → IsPlaceOf S z a → Contains set (label a) ↔ IsInSome arcs polygons z

-- two points of the region of the set are within one traced polygon exactly if they are joined in the region: no closed
-- runs of its boundary separate them
abbrev pub PolygonsAreJoinedPoints : Type 0
PolygonsAreJoinedPoints = (S : List Segment) (arcs : List Path) (faces : FaceTable) → AreFacesOf S arcs faces → (set : List ℕ) (parts : List (List ℕ)) (polygons : List (List (List SignedArc))) → AreTraced arcs faces set parts polygons →
    (label : Place → ℕ) → IsFaceOfPlace arcs faces label → (u v : RationalPoint) (a b : Place) → IsPlaceOf S u a → IsPlaceOf S v b → Contains set (label a) → Contains set (label b) →
    AreInOne arcs polygons u v ↔ AreJoinedIn S (PointsWhere S (λ place. has nat_eq set (label place))) u v

-- a point is within a traced polygon exactly if, of the links of its rings together, an odd number is below it
abbrev pub PolygonsHoldByParity : Type 0
PolygonsHoldByParity = (S : List Segment) (arcs : List Path) (faces : FaceTable) → AreFacesOf S arcs faces → (set : List ℕ) (parts : List (List ℕ)) (polygons : List (List (List SignedArc))) → AreTraced arcs faces set parts polygons →
    (k : ℕ) → k < length polygons → (z : RationalPoint) → (rings_hold z (map (round_of arcs) (slice_index_or polygons k [])) ≡ true) ↔ IsWithin arcs (slice_index_or polygons k []) z

-- The rings of each traced polygon fit the part that it stands for: they use the part's border once, pass each vertex
-- once, an exterior stands first and turns left, holes turn right and rise by their least arcs, and each ring begins
-- with its least arc.
abbrev pub TracedPolygonsFit : Type 0
TracedPolygonsFit = (S : List Segment) (arcs : List Path) (faces : FaceTable) → AreFacesOf S arcs faces → (set : List ℕ) (parts : List (List ℕ)) (polygons : List (List (List SignedArc))) → AreTraced arcs faces set parts polygons →
    (label : Place → ℕ) → IsFaceOfPlace arcs faces label → (k : ℕ) → k < length polygons →
    FitsPart arcs (border_steps (λ place. has nat_eq (slice_index_or (bounded faces.places (length arcs) parts) k []) (label place)) S) (map (round_of arcs) (slice_index_or polygons k []))

-- a point is within some traced polygon exactly if, of the links of all rings of the trace together, an odd number is
-- below it
abbrev pub TracesHoldByParity : Type 0
TracesHoldByParity = (S : List Segment) (arcs : List Path) (faces : FaceTable) → AreFacesOf S arcs faces → (set : List ℕ) (parts : List (List ℕ)) (polygons : List (List (List SignedArc))) → AreTraced arcs faces set parts polygons →
    (z : RationalPoint) → (rings_hold z (map (round_of arcs) (joined_up polygons)) ≡ true) ↔ IsInSome arcs polygons z

-- each ring of a trace is a closed path that passes each of its points once
abbrev pub TracedRingsGoRound : Type 0
TracedRingsGoRound = (S : List Segment) (arcs : List Path) (faces : FaceTable) → AreFacesOf S arcs faces → (set : List ℕ) (parts : List (List ℕ)) (polygons : List (List (List SignedArc))) → AreTraced arcs faces set parts polygons →
    All (All (λ ring. IsRing (round_of arcs ring))) polygons

-- all rings of a trace together use each link once that has the set on one side alone, directed with the set on its
-- left, and no other
abbrev pub TracesUseTheBorder : Type 0
TracesUseTheBorder = (S : List Segment) (arcs : List Path) (faces : FaceTable) → AreFacesOf S arcs faces → (set : List ℕ) (parts : List (List ℕ)) (polygons : List (List (List SignedArc))) → AreTraced arcs faces set parts polygons →
    UsesBoundary faces.places (length arcs) set polygons → (label : Place → ℕ) → IsFaceOfPlace arcs faces label →
    UsesOnce (border_steps (λ place. has nat_eq set (label place)) S) (map (round_of arcs) (joined_up polygons))

-- The faces of a table of the whole arcs of a snapped drawing are such faces, so that these laws are true of them; and
-- a grid point is within some traced polygon exactly if the face over it is in the set.
abbrev pub PolygonsOfADrawing : Type 0
PolygonsOfADrawing = (d : Drawing) (arcs : List Path) → All (λ arc. 1 < length arc) arcs → GoAlong (links_of (snapped d)) arcs → All (IsWholeArc (snapped d)) arcs → (faces : FaceTable) → IsBuiltOf arcs faces →
    AreFacesOf (links_of (snapped d)) arcs faces
    × ((set : List ℕ) (parts : List (List ℕ)) (polygons : List (List (List SignedArc))) → AreTraced arcs faces set parts polygons → (p : GridPoint) (f : ℕ) → IsFaceOver faces p f → Contains set f ↔ IsInSome arcs polygons (at p))
