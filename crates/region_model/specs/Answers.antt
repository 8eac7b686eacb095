-- The questions that commands ask of the plane, and their right answers.
use Rattle.std.specs.Prelude.{◌≡◌, ◌↔◌, ℕ, ◌<◌, Bool, true, false, ℤ, List, [], ◌∷◌, Contains}
use Rattle.plane_model.specs.Points.{GridPoint, RationalPoint, Segment, Path}
use Rattle.plane_model.specs.Arcs.{arcs_of}
use Rattle.plane_model.specs.Boundary.{boundary_by, twice_area}
use Rattle.plane_model.specs.Drawing.{Drawing, vertices_of}
use Rattle.plane_model.specs.Sees.{IsOffLinks}
use Rattle.plane_model.specs.Sides.{Points, LeftIn, RightIn, IsInside}
use Rattle.plane_model.specs.Snapped.{links_of, snapped}
use Rattle.plane_model.specs.SnappedRings.{HasClosedRings}
use Rattle.region_model.specs.Region.{Region, Regions, Has, part, gap}

-- the snapped drawing of a run, with its links and its arcs
pub record Plane : Type 0 where
  pub drawing : Drawing
  pub links : List Segment
  pub arcs : List Path

-- what a drawing becomes
abbrev pub plane_of : Drawing → Plane
plane_of d =
    let s : Drawing = snapped d in
    let S : List Segment = links_of s in
    record { drawing = s; links = S; arcs = arcs_of s S }

-- the points off the links that a region of the plane has
abbrev pub PointsOf : Plane → Region → Points
PointsOf P r = Has P.drawing P.arcs r

-- some point off the links is in the region
abbrev pub HasSome : Plane → Region → Type 0
HasSome P r = (z : RationalPoint) × IsOffLinks P.links z × PointsOf P r z

-- ---- questions and answers

pub record Answers : Type 0 where
  -- the left, or right, side of a link belongs to the region
  pub left : Region → Segment → Bool
  pub right : Region → Segment → Bool
  -- a vertex is inside the region: some point of it sees the vertex
  pub inside : Region → GridPoint → Bool
  -- how many parts the region has, and how many gaps there are between regions
  pub parts : Region → ℕ
  pub gaps : Regions → ℕ

-- tests of the sides of links: whether the left, or right, side belongs to R
pub record AreSides (S : List Segment) (R : Points) (left right : Segment → Bool) : Type 0 where
  pub left_side : (l : Segment) → Contains S l → (left l ≡ true) ↔ LeftIn S R l
  pub right_side : (l : Segment) → Contains S l → (right l ≡ true) ↔ RightIn S R l

pub record AreRight (P : Plane) (A : Answers) : Type 0 where
  pub sides : (r : Region) → AreSides P.links (PointsOf P r) (A.left r) (A.right r)
  pub inside : (r : Region) (p : GridPoint) → Contains (vertices_of P.drawing) p → (A.inside r p ≡ true) ↔ IsInside P.links (PointsOf P r) p
  -- each number below the count is that of a part, or gap, with a point, and no other is
  pub parts : (r : Region) (j : ℕ) → (j < A.parts r) ↔ HasSome P (part r j)
  pub gaps : (rs : Regions) (j : ℕ) → (j < A.gaps rs) ↔ HasSome P (gap rs j)

-- ---- what follows from them

-- the boundary: the links with exactly one side in the region, each directed with the region on its left
abbrev pub boundary : Plane → Answers → Region → List Segment
boundary P A r = boundary_by (A.left r) (A.right r) P.links

abbrev pub is_nil : {A : Type 0} → List A → Bool
is_nil [] = true
is_nil (x ∷ xs) = false

-- a region is empty where its boundary is
abbrev pub is_empty : Plane → Answers → Region → Bool
is_empty P A r = is_nil (boundary P A r)

-- twice the area within its boundary
abbrev pub area_of : Plane → Answers → Region → ℤ
area_of P A r = twice_area (boundary P A r)

-- ---- law: the plane of each drawing with closed rings has right answers
abbrev pub RightAnswersExist : Type 0
RightAnswersExist = (d : Drawing) → HasClosedRings d → (A : Answers) × AreRight (plane_of d) A
