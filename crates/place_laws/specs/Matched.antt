-- The sets that points are matched with are those of the regions that the points are inside of.
use Rattle.std.specs.Prelude.{◌≡◌, ◌↔◌, ℕ, true, List, [], All, Contains, map, slice_index_or}
use Rattle.std.specs.List.{AllZip}
use Rattle.plane_model.specs.Points.{GridPoint, Path}
use Rattle.plane_model.specs.Drawing.{Drawing, vertices_of}
use Rattle.plane_model.specs.Sides.{IsInside}
use Rattle.plane_model.specs.Snapped.{links_of, snapped}
use Rattle.plane_faces.specs.Places.{Place}
use Rattle.face_walk.specs.Places.{FaceTable}
use Rattle.region_model.specs.Region.{Region, any_of, Has}
use Rattle.region_model.specs.Answers.{Answers}
use Rattle.region_model.specs.PlaceCommands.{around_points, points_inside}
use Rattle.spatial_join.specs.Matches.{AreMatchedPoints, AreMatchedSets, AreSetsAt}
use Rattle.line_laws.specs.Regions.{AreFacesOf, HasFacesOf}

-- the set is that of the region
abbrev pub IsSetOfRegion : Drawing → List Path → (Place → ℕ) → List ℕ → Region → Type 0
IsSetOfRegion d arcs label set r = HasFacesOf (links_of (snapped d)) label set (Has (snapped d) arcs r)

-- and the answers tell which vertices of the drawing are inside the region
pub record IsToldInside (d : Drawing) (arcs : List Path) (label : Place → ℕ) (A : Answers) (set : List ℕ) (r : Region) : Type 0 where
  pub follows : IsSetOfRegion d arcs label set r
  pub inside : (p : GridPoint) → Contains (vertices_of (snapped d)) p → (A.inside r p ≡ true) ↔ IsInside (links_of (snapped d)) (Has (snapped d) arcs r) p

-- ---- laws, where the points are vertices of the snapped drawing

-- a set is matched with a list of points exactly if some of the points are inside its region: some point of the region
-- sees them
abbrev pub MatchesAreInside : Type 0
MatchesAreInside = (d : Drawing) (arcs : List Path) (faces : FaceTable) (label : Place → ℕ) → AreFacesOf d arcs faces label → (sets : List (List ℕ)) (regions : List Region) → AllZip (IsSetOfRegion d arcs label) sets regions →
    (points : List GridPoint) → All (Contains (vertices_of (snapped d))) points → (matched : List ℕ) → AreSetsAt arcs faces sets points matched →
    (n : ℕ) → Contains matched n ↔ ((p : GridPoint) × Contains points p × IsInside (links_of (snapped d)) (Has (snapped d) arcs (slice_index_or regions n (any_of []))) p)

-- so the sets that each list of points is matched with are those of the regions that some of its points are inside of
abbrev pub PointsAreMatched : Type 0
PointsAreMatched = (d : Drawing) (arcs : List Path) (faces : FaceTable) (label : Place → ℕ) → AreFacesOf d arcs faces label → (A : Answers) (sets : List (List ℕ)) (regions : List Region) → AllZip (IsToldInside d arcs label A) sets regions →
    (points : List Path) → All (All (Contains (vertices_of (snapped d)))) points → (matches : List (List ℕ)) → AreMatchedPoints arcs faces points sets matches → matches ≡ map (around_points A regions) points

-- and the lists of points that each set is matched with are those of which some points are inside its region
abbrev pub SetsAreMatched : Type 0
SetsAreMatched = (d : Drawing) (arcs : List Path) (faces : FaceTable) (label : Place → ℕ) → AreFacesOf d arcs faces label → (A : Answers) (sets : List (List ℕ)) (regions : List Region) → AllZip (IsToldInside d arcs label A) sets regions →
    (points : List Path) → All (All (Contains (vertices_of (snapped d)))) points → (matches : List (List ℕ)) → AreMatchedSets arcs faces points sets matches → matches ≡ map (points_inside A points) regions
