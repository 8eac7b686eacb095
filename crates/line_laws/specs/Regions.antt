-- Lines and points cut by a region, and the regions at the two sides of arcs.
use Rattle.std.specs.Prelude.{◌≡◌, ◌↔◌, ℕ, ◌<◌, Bool, true, List, [], All, Contains, filter, length, map, slice_get, slice_index_or}
use Rattle.std.specs.List.{AllZip, flat_map}
use Rattle.plane_model.specs.Points.{GridPoint, RationalPoint, Segment, Path}
use Rattle.plane_model.specs.Arcs.{SignedArc}
use Rattle.plane_model.specs.Drawing.{Drawing, vertices_of}
use Rattle.plane_model.specs.Sees.{IsOffLinks}
use Rattle.plane_model.specs.Sides.{Points, IsInside}
use Rattle.plane_model.specs.Snapped.{links_of, snapped}
use Rattle.plane_faces.specs.Places.{Place, IsPlaceOf}
use Rattle.arc_table.specs.PathArcs.{AreArcsOf}
use Rattle.face_walk.specs.Places.{FaceTable, IsBuiltOf}
use Rattle.face_laws.specs.Faces.{IsFaceOfPlace}
use Rattle.line_ops.specs.Inside.{is_inside, is_outside}
use Rattle.line_ops.specs.Points.{IsInsideAt}
use Rattle.line_ops.specs.Runs.{runs_where}
use Rattle.line_ops.specs.Sided.{has_both, left_sets, right_sets, sided_among}
use Rattle.line_ops.specs.declared.sides.SidedArc.{SidedArc}
use Rattle.region_model.specs.Region.{Region, any_of, Has}
use Rattle.region_model.specs.Answers.{Answers, AreSides, Plane}
use Rattle.region_model.specs.LineCommands as model
use Rattle.region_model.specs.LineCommands.{clipped_path, erased_path, holders_left, holders_right, inner_lines, outer_and_inner}
use Rattle.line_laws.specs.Linked.{AreLinked, AreThere, points_along}

-- a point on no link is in R exactly if its face is in the set
abbrev pub HasFacesOf : List Segment → (Place → ℕ) → List ℕ → Points → Type 0
HasFacesOf S label set R = (z : RationalPoint) → IsOffLinks S z → (a : Place) → IsPlaceOf S z a → R z ↔ Contains set (label a)

-- the arcs of a snapped drawing, its faces, and places labelled by them
pub record AreFacesOf (d : Drawing) (arcs : List Path) (faces : FaceTable) (label : Place → ℕ) : Type 0 where
  pub table : AreArcsOf (snapped d) arcs
  pub built : IsBuiltOf arcs faces
  pub by_face : IsFaceOfPlace arcs faces label

-- the set is that of the region, and the answers tell which sides of links belong to the region
pub record IsToldOf (d : Drawing) (arcs : List Path) (label : Place → ℕ) (A : Answers) (set : List ℕ) (r : Region) : Type 0 where
  pub follows : HasFacesOf (links_of (snapped d)) label set (Has (snapped d) arcs r)
  pub sides : AreSides (links_of (snapped d)) (Has (snapped d) arcs r) (A.left r) (A.right r)

-- ---- laws

-- Paths whose arcs follow each other, cut by a set of faces, are as points what the region of the set leaves of them:
-- their maximal runs of steps along links that are inside it, and of steps along links that are not.
abbrev pub PathsCutByRegions : Type 0
PathsCutByRegions = (d : Drawing) (arcs : List Path) (faces : FaceTable) (label : Place → ℕ) → AreFacesOf d arcs faces label → (A : Answers) (set : List ℕ) (r : Region) → IsToldOf d arcs label A set r →
    (paths : List (List SignedArc)) → All (AreThere arcs) paths → All (AreLinked arcs) paths →
    (points_along arcs (flat_map (runs_where (is_inside faces set)) paths) ≡ flat_map (clipped_path A r) (points_along arcs paths))
    × (points_along arcs (flat_map (runs_where (is_outside faces set)) paths) ≡ flat_map (erased_path A r) (points_along arcs paths))

-- vertices of the drawing are inside the set, as it is answered for them, exactly if some point of the region sees them
abbrev pub PointsCutByRegions : Type 0
PointsCutByRegions = (d : Drawing) (arcs : List Path) (faces : FaceTable) (label : Place → ℕ) → AreFacesOf d arcs faces label → (A : Answers) (set : List ℕ) (r : Region) → HasFacesOf (links_of (snapped d)) label set (Has (snapped d) arcs r) →
    ((p : GridPoint) → Contains (vertices_of (snapped d)) p → (A.inside r p ≡ true) ↔ IsInside (links_of (snapped d)) (Has (snapped d) arcs r) p) →
    (points : List GridPoint) → All (Contains (vertices_of (snapped d))) points → (answers : List Bool) → AllZip (λ p inside. IsInsideAt arcs faces p set inside) points answers → answers ≡ map (A.inside r) points

-- which vertices of the drawing are inside a region that a set follows can be told
abbrev pub InsidesAreTold : Type 0
InsidesAreTold = (d : Drawing) (arcs : List Path) (faces : FaceTable) (label : Place → ℕ) → AreFacesOf d arcs faces label → (set : List ℕ) (r : Region) → HasFacesOf (links_of (snapped d)) label set (Has (snapped d) arcs r) →
    (inside : GridPoint → Bool) × ((p : GridPoint) → Contains (vertices_of (snapped d)) p → (inside p ≡ true) ↔ IsInside (links_of (snapped d)) (Has (snapped d) arcs r) p)

-- the sets at the two sides of an arc are those of the regions that have the two sides of its first link
abbrev pub SetsAreHolders : Type 0
SetsAreHolders = (d : Drawing) (arcs : List Path) (faces : FaceTable) (label : Place → ℕ) → AreFacesOf d arcs faces label → (A : Answers) (sets : List (List ℕ)) (regions : List Region) → length regions ≡ length sets →
    ((i : ℕ) → i < length sets → IsToldOf d arcs label A (slice_index_or sets i []) (slice_index_or regions i (any_of []))) → (n : ℕ) → n < length arcs →
    (left_sets faces sets n ≡ holders_left A regions (slice_index_or arcs n [])) × (right_sets faces sets n ≡ holders_right A regions (slice_index_or arcs n []))

-- arcs between sets, as points and with the least set at each side, are those between regions; and so are the inner
-- ones
pub record AreBordersOf (P : Plane) (A : Answers) (regions : List Region) (arcs : List Path) (sided : List SidedArc) : Type 0 where
  pub points : map (λ (s : SidedArc). slice_index_or arcs s.arc []) sided ≡ map (λ (a : model.SidedArc). a.points) (outer_and_inner P A regions)
  pub left : map (λ (s : SidedArc). s.left) sided ≡ map (λ (a : model.SidedArc). slice_get a.left 0) (outer_and_inner P A regions)
  pub right : map (λ (s : SidedArc). s.right) sided ≡ map (λ (a : model.SidedArc). slice_get a.right 0) (outer_and_inner P A regions)
  pub inner : map (λ (s : SidedArc). slice_index_or arcs s.arc []) (filter has_both sided) ≡ inner_lines P A regions

-- so the arcs between sets are those between their regions, in order of number
abbrev pub BordersAreOfRegions : Type 0
BordersAreOfRegions = (d : Drawing) (arcs : List Path) (faces : FaceTable) (label : Place → ℕ) → AreFacesOf d arcs faces label → (A : Answers) (sets : List (List ℕ)) (regions : List Region) → length regions ≡ length sets →
    ((i : ℕ) → i < length sets → IsToldOf d arcs label A (slice_index_or sets i []) (slice_index_or regions i (any_of []))) → (P : Plane) → P.arcs ≡ arcs → AreBordersOf P A regions arcs (sided_among faces sets (length arcs))
