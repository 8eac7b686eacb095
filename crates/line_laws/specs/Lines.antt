-- The links of arcs by the sides that belong to a set of faces: what is inside, and what is on the boundary.
use Rattle.std.specs.List.{flat_map}
use Rattle.std.specs.Prelude.{◌≡◌, ◌⊎◌, ◌↔◌, ℕ, ◌<◌, Bool, true, not, List, [], All, Contains, length, map, slice_index_or}
use Rattle.plane_model.specs.Points.{RationalPoint, Segment, Path, link_between}
use Rattle.plane_model.specs.Arcs.{SignedArc, joined_points}
use Rattle.plane_model.specs.Arrangement.{IsArrangement, IsDistinct}
use Rattle.plane_model.specs.Drawing.{Drawing, steps}
use Rattle.plane_model.specs.Joined.{IsBoundaryLink, links_of_arc}
use Rattle.plane_model.specs.Rotation.{Dart}
use Rattle.plane_model.specs.Sides.{Points, LeftIn, RightIn}
use Rattle.plane_model.specs.Snapped.{links_of, snapped}
use Rattle.plane_faces.specs.Around.{opposite}
use Rattle.plane_faces.specs.Places.{Place}
use Rattle.plane_faces.specs.Rings.{darts_of_path}
use Rattle.grid_base.specs.Drawn.{HasPaths}
use Rattle.arc_table.specs.Along.{GoAlong}
use Rattle.arc_table.specs.Nodes.{IsLineOf}
use Rattle.arc_table.specs.PathArcs.{AreArcsOf, ArePathArcs, RunsFrom, round_from}
use Rattle.face_walk.specs.Holders.{AreHolders, HolderTable}
use Rattle.face_walk.specs.Places.{FaceTable, IsBuiltOf}
use Rattle.face_laws.specs.Faces.{AreFreeInside, IsFaceOfPlace, SeesSide, directed_as}
use Rattle.face_sets.specs.Boundary.{IsOnBoundary}
use Rattle.line_ops.specs.Inside.{is_inside, is_outside, left_of, right_of}
use Rattle.line_ops.specs.Runs.{runs_where}
use Rattle.point_laws.specs.Sight.{PointsOf}

-- the faces of a table of arcs that go along the links of an arrangement, and labels of the places of the plane by them
pub record AreLabelled (S : List Segment) (arcs : List Path) (faces : FaceTable) (label : Place → ℕ) : Type 0 where
  pub arrangement : IsArrangement S
  pub distinct : IsDistinct S
  pub long : All (λ arc. 1 < length arc) arcs
  pub along : GoAlong S arcs
  pub free : AreFreeInside S arcs
  pub built : IsBuiltOf arcs faces
  pub by_face : IsFaceOfPlace arcs faces label

-- the arcs and the faces of a snapped drawing, and the features and boxes that hold each face
pub record AreLaid (d : Drawing) (arcs : List Path) (faces : FaceTable) (labels : HolderTable) : Type 0 where
  pub drawn : HasPaths (snapped d)
  pub table : AreArcsOf (snapped d) arcs
  pub built : IsBuiltOf arcs faces
  pub below : All (λ f. f < faces.count) faces.places
  pub holders : AreHolders arcs (snapped d) faces labels

-- some point that sees a directed link from its left is in R
abbrev pub LeftSideIn : List Segment → Points → Dart → Type 0
LeftSideIn S R d = (z : RationalPoint) × SeesSide S d.forward d.link z × R z

-- a link is inside R: at least one of its sides is in it
abbrev pub IsLinkInside : List Segment → Points → Segment → Type 0
IsLinkInside S R l = LeftIn S R l ⊎ RightIn S R l

-- of two faces a set has just one
abbrev pub HasJustOne : List ℕ → ℕ → ℕ → Type 0
HasJustOne set f g = (Contains set f × (Contains set g → ⊥)) ⊎ (Contains set g × (Contains set f → ⊥))

-- a test that holds of just those links of S that are inside R
abbrev pub TestsInside : List Segment → Points → (Segment → Bool) → Type 0
TestsInside S R test = (l : Segment) → Contains S l → (test l ≡ true) ↔ IsLinkInside S R l

-- the step goes along a link that passes the test, or that doesn't
abbrev pub goes_inside : (Segment → Bool) → Segment → Bool
goes_inside test s = test (link_between s)

abbrev pub goes_outside : (Segment → Bool) → Segment → Bool
goes_outside test s = not (test (link_between s))

-- the steps of a run of signed arcs, joined
abbrev pub steps_of_run : List Path → List SignedArc → List Segment
steps_of_run arcs run = steps (joined_points arcs run)

-- Signed arcs along a path of which these are the steps, cut into what is inside a set and what isn't: the runs of
-- arcs, joined, have for their steps the maximal runs of steps along links that are inside the region, and of steps
-- along links that are not.
pub record AreCutInto (S : List Segment) (R : Points) (arcs : List Path) (faces : FaceTable) (set : List ℕ) (named : List SignedArc) (along : List Segment) : Type 0 where
  pub clipped : (test : Segment → Bool) → TestsInside S R test → map (steps_of_run arcs) (runs_where (is_inside faces set) named) ≡ runs_where (goes_inside test) along
  pub erased : (test : Segment → Bool) → TestsInside S R test → map (steps_of_run arcs) (runs_where (is_outside faces set) named) ≡ runs_where (goes_outside test) along

-- ---- laws

-- the faces of a table of the arcs of a snapped drawing are such faces
abbrev pub DrawingsAreLabelled : Type 0
DrawingsAreLabelled = (d : Drawing) (arcs : List Path) → AreArcsOf (snapped d) arcs → (faces : FaceTable) → IsBuiltOf arcs faces → (label : Place → ℕ) → IsFaceOfPlace arcs faces label →
    AreLabelled (links_of (snapped d)) arcs faces label

-- the left side of each link of a signed arc is in the points of a set exactly if the set has the face left of the arc,
-- and so is its right side
abbrev pub SidesOfArcs : Type 0
SidesOfArcs = (S : List Segment) (arcs : List Path) (faces : FaceTable) (label : Place → ℕ) → AreLabelled S arcs faces label → (set : List ℕ) → (a : SignedArc) → a.arc < length arcs →
    All (λ (e : Dart). (LeftSideIn S (PointsOf S label set) (directed_as a e) ↔ Contains set (left_of faces a))
    × (LeftSideIn S (PointsOf S label set) (opposite (directed_as a e)) ↔ Contains set (right_of faces a))) (darts_of_path (slice_index_or arcs a.arc []))

-- so an arc is inside a set, as it is answered for it, exactly if each link of it is inside the points of the set
abbrev pub ArcsAreInside : Type 0
ArcsAreInside = (S : List Segment) (arcs : List Path) (faces : FaceTable) (label : Place → ℕ) → AreLabelled S arcs faces label → (set : List ℕ) → (a : SignedArc) → a.arc < length arcs →
    All (λ (l : Segment). (is_inside faces set a ≡ true) ↔ IsLinkInside S (PointsOf S label set) l) (links_of_arc arcs a.arc)

-- and each link of it is on the boundary of these points exactly if the set has just one of the two faces beside the
-- arc
abbrev pub BoundaryOfArcs : Type 0
BoundaryOfArcs = (S : List Segment) (arcs : List Path) (faces : FaceTable) (label : Place → ℕ) → AreLabelled S arcs faces label → (set : List ℕ) → (a : SignedArc) → a.arc < length arcs →
    All (λ (l : Segment). IsBoundaryLink S (PointsOf S label set) l ↔ HasJustOne set (left_of faces a) (right_of faces a)) (links_of_arc arcs a.arc)

-- a signed arc is on the boundary of a set, as it is traced, exactly if of each of its links, directed as the arc, the
-- left side is in the points of the set and the right side is not
abbrev pub BoundaryIsDirected : Type 0
BoundaryIsDirected = (S : List Segment) (arcs : List Path) (faces : FaceTable) (label : Place → ℕ) → AreLabelled S arcs faces label → (set : List ℕ) → (a : SignedArc) → a.arc < length arcs →
    All (λ (e : Dart). IsOnBoundary faces set a ↔ (LeftSideIn S (PointsOf S label set) (directed_as a e) × (LeftSideIn S (PointsOf S label set) (opposite (directed_as a e)) → ⊥))) (darts_of_path (slice_index_or arcs a.arc []))

-- if some point that sees a side of a link is in the points of a set, each point that sees it is
abbrev pub SidesAreWhole : Type 0
SidesAreWhole = (S : List Segment) (arcs : List Path) (faces : FaceTable) (label : Place → ℕ) → AreLabelled S arcs faces label → (set : List ℕ) → (d : Dart) → Contains S d.link →
    LeftSideIn S (PointsOf S label set) d → (z : RationalPoint) → SeesSide S d.forward d.link z → PointsOf S label set z

-- ---- paths

-- some test holds of just the links that are inside the points of a set
abbrev pub InsideIsTested : Type 0
InsideIsTested = (S : List Segment) (arcs : List Path) (faces : FaceTable) (label : Place → ℕ) → AreLabelled S arcs faces label → (set : List ℕ) → (test : Segment → Bool) × TestsInside S (PointsOf S label set) test

-- The arcs of any path of a snapped drawing that is read from vertex `first` on, cut by a set of faces, are its maximal
-- runs of steps along links that are inside the points of the set, and of steps along links that are not.
abbrev pub PathsAreCut : Type 0
PathsAreCut = (d : Drawing) (arcs : List Path) → AreArcsOf (snapped d) arcs → (faces : FaceTable) → IsBuiltOf arcs faces → (label : Place → ℕ) → IsFaceOfPlace arcs faces label → (set : List ℕ) →
    (path : Path) (named : List SignedArc) → All (λ a. a.arc < length arcs) named → (along : RunsFrom (snapped d) arcs path named) →
    AreCutInto (links_of (snapped d)) (PointsOf (links_of (snapped d)) label set) arcs faces set named (steps (round_from along.first path))

-- so it is with each path of a line of the drawing, read from its start
abbrev pub LinesAreCut : Type 0
LinesAreCut = (d : Drawing) → HasPaths (snapped d) → (arcs : List Path) → AreArcsOf (snapped d) arcs → (faces : FaceTable) → IsBuiltOf arcs faces → (label : Place → ℕ) → IsFaceOfPlace arcs faces label → (set : List ℕ) →
    (line : Path) → IsLineOf (snapped d) line → (named : List SignedArc) → All (λ a. a.arc < length arcs) named → ArePathArcs (snapped d) arcs line named →
    AreCutInto (links_of (snapped d)) (PointsOf (links_of (snapped d)) label set) arcs faces set named (steps line)

-- the arcs of each of these lines
pub record AreArcsOfLines (d : Drawing) (arcs : List Path) (lines : List Path) (named : List (List SignedArc)) : Type 0 where
  pub each : length named ≡ length lines
  pub of_drawing : All (IsLineOf d) lines
  pub there : All (All (λ a. a.arc < length arcs)) named
  pub along : (k : ℕ) → k < length lines → ArePathArcs d arcs (slice_index_or lines k []) (slice_index_or named k [])

-- arcs of lines, cut by a set: the runs of arcs, joined, have for their steps the maximal runs of steps of the lines,
-- line by line, along links that pass the test, and along links that don't
pub record AreCutBy (test : Segment → Bool) (arcs : List Path) (faces : FaceTable) (set : List ℕ) (lines : List Path) (named : List (List SignedArc)) : Type 0 where
  pub clipped : map (steps_of_run arcs) (flat_map (runs_where (is_inside faces set)) named) ≡ flat_map (λ (line : Path). runs_where (goes_inside test) (steps line)) lines
  pub erased : map (steps_of_run arcs) (flat_map (runs_where (is_outside faces set)) named) ≡ flat_map (λ (line : Path). runs_where (goes_outside test) (steps line)) lines

-- and so it is with a line feature, path by path, in order
abbrev pub LineFeaturesAreCut : Type 0
LineFeaturesAreCut = (d : Drawing) → HasPaths (snapped d) → (arcs : List Path) → AreArcsOf (snapped d) arcs → (faces : FaceTable) → IsBuiltOf arcs faces → (label : Place → ℕ) → IsFaceOfPlace arcs faces label → (set : List ℕ) →
    (lines : List Path) (named : List (List SignedArc)) → AreArcsOfLines (snapped d) arcs lines named → (test : Segment → Bool) → TestsInside (links_of (snapped d)) (PointsOf (links_of (snapped d)) label set) test →
    AreCutBy test arcs faces set lines named
