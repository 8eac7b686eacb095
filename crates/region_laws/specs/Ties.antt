-- Sets of faces and the sides of links that belong to a region; empty regions, and sets cleaned by the areas of
-- regions.
use Rattle.std.specs.Prelude.{◌≡◌, ◌↔◌, ℕ, ◌<◌, Bool, true, false, List, [], All, Contains, filter, length, slice_index_or, ℤ}
use Rattle.std.specs.List.{range_with_len}
use Rattle.std.specs.List.Sorted.{IsStrictlyIncreasing}
use Rattle.plane_model.specs.Points.{RationalPoint, Segment, Path}
use Rattle.plane_model.specs.Arcs.{SignedArc}
use Rattle.plane_model.specs.Boundary.{boundary_by, twice_area}
use Rattle.plane_model.specs.Drawing.{Drawing}
use Rattle.plane_model.specs.Rotation.{Dart}
use Rattle.plane_model.specs.Sees.{IsOffLinks}
use Rattle.plane_model.specs.Sides.{LeftIn, Points, RightIn}
use Rattle.plane_model.specs.Snapped.{links_of, snapped}
use Rattle.plane_faces.specs.Places.{Place}
use Rattle.plane_faces.specs.Rings.{darts_of_path}
use Rattle.grid_base.specs.declared.kinds.OverlapRule.{OverlapRule}
use Rattle.face_walk.specs.Places.{FaceTable, face_left_of}
use Rattle.face_laws.specs.Faces.{directed_as}
use Rattle.face_sets.specs.Sets.{IsSetOf}
use Rattle.region_ops.specs.Cleaned.{IsCleaned, ranks_before}
use Rattle.region_model.specs.Region.{Region, less, any_of, Has}
use Rattle.region_laws.specs.Regions.{Follows, FollowEach}
use Rattle.region_model.specs.Answers.{AreSides}
use Rattle.region_model.specs.PolygonCommands.{regions_at}
use Rattle.region_laws.specs.Followed.{IsWalked}

-- the side on the left of a link, directed forward or back, belongs to R: some point that sees the link from there is
-- in R
abbrev pub SideBelongs : List Segment → Points → Bool → Segment → Type 0
SideBelongs S R true l = LeftIn S R l
SideBelongs S R false l = RightIn S R l

-- The faces of a set are just those on the sides that belong to its region: the left side of each link along a signed
-- arc belongs to the region exactly if the face left of the arc is in the set, and each face of the set is left of some
-- signed arc.
abbrev pub SetsAreOfSides : Type 0
SetsAreOfSides = (d : Drawing) (arcs : List Path) (faces : FaceTable) (label : Place → ℕ) → IsWalked d arcs faces label → (set : List ℕ) → IsSetOf faces set → (r : Region) → Follows (snapped d) arcs label set r →
    ((a : SignedArc) → a.arc < length arcs → All (λ (e : Dart). SideBelongs (links_of (snapped d)) (Has (snapped d) arcs r) (directed_as a e).forward (directed_as a e).link ↔ Contains set (face_left_of faces.places a))
    (darts_of_path (slice_index_or arcs a.arc [])))
    × ((f : ℕ) → Contains set f → (a : SignedArc) × (a.arc < length arcs) × (face_left_of faces.places a ≡ f))

-- a set has no faces exactly if its region has no points on no link, and exactly if the boundary of the region is empty
abbrev pub EmptySetsAreEmptyRegions : Type 0
EmptySetsAreEmptyRegions = (d : Drawing) (arcs : List Path) (faces : FaceTable) (label : Place → ℕ) → IsWalked d arcs faces label → (set : List ℕ) → IsSetOf faces set → (r : Region) → Follows (snapped d) arcs label set r →
    ((set ≡ []) ↔ ((z : RationalPoint) → IsOffLinks (links_of (snapped d)) z → Has (snapped d) arcs r z → ⊥))
    × ((left right : Segment → Bool) → AreSides (links_of (snapped d)) (Has (snapped d) arcs r) left right → (set ≡ []) ↔ (boundary_by left right (links_of (snapped d)) ≡ []))

-- twice the area of region n, by tests of the sides of links
abbrev pub area_within : List Segment → (ℕ → Segment → Bool) → (ℕ → Segment → Bool) → ℕ → ℤ
area_within S left right n = twice_area (boundary_by (left n) (right n) S)

-- what is left of a set follows its region less any of those that rank before it, where areas are those of the regions
abbrev pub CleanedByRegions : Type 0
CleanedByRegions = (d : Drawing) (arcs : List Path) (faces : FaceTable) (label : Place → ℕ) → IsWalked d arcs faces label → (sets : List (List ℕ)) → All IsStrictlyIncreasing sets → All (IsSetOf faces) sets → (region : ℕ → Region) →
    FollowEach (snapped d) arcs label sets region → (left right : ℕ → Segment → Bool) → ((n : ℕ) → n < length sets → AreSides (links_of (snapped d)) (Has (snapped d) arcs (region n)) (left n) (right n)) →
    (rule : OverlapRule) (cleaned : List (List ℕ)) → IsCleaned rule faces.areas sets cleaned →
    FollowEach (snapped d) arcs label cleaned (λ n. less (region n) (any_of (regions_at region
    (filter (λ (m : ℕ). ranks_before rule m (area_within (links_of (snapped d)) left right m) n (area_within (links_of (snapped d)) left right n)) (range_with_len 0 (length sets))))))

-- only one set follows a region
abbrev pub OneSetFollows : Type 0
OneSetFollows = (d : Drawing) (arcs : List Path) (faces : FaceTable) (label : Place → ℕ) → IsWalked d arcs faces label → (f g : List ℕ) → IsStrictlyIncreasing f → IsStrictlyIncreasing g → IsSetOf faces f → IsSetOf faces g →
    (r : Region) → Follows (snapped d) arcs label f r → Follows (snapped d) arcs label g r → f ≡ g
