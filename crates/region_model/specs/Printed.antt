-- What printed polygons must be to fit a region; the reading of RFC 7946 (section 3.1.6), which knows exteriors and
-- holes, and laws of both.
use Rattle.std.specs.Prelude.{◌≡◌, ◌↔◌, ℕ, Bool, true, false, not, ◌&&◌, List, [], ◌∷◌, All, AllPairs, Any}
use Rattle.std.specs.List.{AllZip, list_any, range_with_len}
use Rattle.lists.specs.Lists.{joined_up}
use Rattle.plane_model.specs.Points.{RationalPoint, Path}
use Rattle.plane_model.specs.Drawing.{Drawing, Polygon}
use Rattle.plane_model.specs.Joined.{AreJoinedIn}
use Rattle.plane_model.specs.Parity.{rings_hold}
use Rattle.plane_model.specs.Rings.{UsesOnce, FitsPart}
use Rattle.plane_model.specs.Sees.{IsOffLinks}
use Rattle.plane_model.specs.SnappedRings.{HasClosedRings}
use Rattle.region_model.specs.Region.{Region, part}
use Rattle.region_model.specs.Answers.{Plane, Answers, AreRight, PointsOf, boundary, plane_of}

-- a printed feature holds z where all its rings together do
abbrev pub printed_holds : RationalPoint → List Polygon → Bool
printed_holds z polygons = rings_hold z (joined_up polygons)

-- Part j of the region, printed: the rings use its boundary once, each passes each of its vertices once, the exterior
-- stands first and turns counterclockwise, holes turn clockwise and stand in order of their least arcs, and each ring
-- begins where its least arc does.
abbrev pub FitsPartOf : Plane → Answers → Region → ℕ → Polygon → Type 0
FitsPartOf P A r j polygon = FitsPart P.arcs (boundary P A (part r j)) polygon

-- All rings together use the boundary once; one by one the polygons fit the parts, in order.
pub record Fits (P : Plane) (A : Answers) (r : Region) (polygons : List Polygon) : Type 0 where
  pub whole : UsesOnce (boundary P A r) (joined_up polygons)
  pub by_parts : AllZip (FitsPartOf P A r) (range_with_len 0 (A.parts r)) polygons

-- ---- laws: what follows for a reader of printed polygons

-- polygons that fit a region of the plane of a drawing, by the right answers
pub record ArePrinted (d : Drawing) (A : Answers) (r : Region) (polygons : List Polygon) : Type 0 where
  pub closed : HasClosedRings d
  pub right : AreRight (plane_of d) A
  pub fit : Fits (plane_of d) A r polygons

-- z lies on no link of the plane of a drawing
abbrev pub IsOff : Drawing → RationalPoint → Type 0
IsOff d z = IsOffLinks (plane_of d).links z

-- a point on no link is held exactly if the region has it
abbrev pub RegionsArePrinted : Type 0
RegionsArePrinted = (d : Drawing) (A : Answers) (r : Region) (polygons : List Polygon) → ArePrinted d A r polygons → (z : RationalPoint) → IsOff d z → (printed_holds z polygons ≡ true) ↔ PointsOf (plane_of d) r z

-- inside the exterior and inside no hole
abbrev pub polygon_holds : RationalPoint → Polygon → Bool
polygon_holds z [] = false
polygon_holds z (exterior ∷ holes) = rings_hold z (exterior ∷ []) && not (list_any (λ (hole : Path). rings_hold z (hole ∷ [])) holes)

-- off the links counting all rings of a polygon agrees with its exterior and holes
abbrev pub ReadingsAgree : Type 0
ReadingsAgree = (d : Drawing) (A : Answers) (r : Region) (polygons : List Polygon) → ArePrinted d A r polygons → (z : RationalPoint) → IsOff d z → All (λ p. rings_hold z p ≡ polygon_holds z p) polygons

-- no point off the links lies in two polygons
abbrev pub PolygonsAreApart : Type 0
PolygonsAreApart = (d : Drawing) (A : Answers) (r : Region) (polygons : List Polygon) → ArePrinted d A r polygons → (z : RationalPoint) → IsOff d z →
    AllPairs (λ p q. polygon_holds z p ≡ true → polygon_holds z q ≡ true → ⊥) polygons

-- two points of the region off the links lie in one polygon exactly if they are joined in it
abbrev pub PolygonsAreParts : Type 0
PolygonsAreParts = (d : Drawing) (A : Answers) (r : Region) (polygons : List Polygon) → ArePrinted d A r polygons → (z w : RationalPoint) → IsOff d z → IsOff d w → PointsOf (plane_of d) r z → PointsOf (plane_of d) r w →
    Any (λ p. (polygon_holds z p ≡ true) × (polygon_holds w p ≡ true)) polygons ↔ AreJoinedIn (plane_of d).links (PointsOf (plane_of d) r) z w

-- each region has such polygons
abbrev pub EachRegionIsPrinted : Type 0
EachRegionIsPrinted = (d : Drawing) (A : Answers) → HasClosedRings d → AreRight (plane_of d) A → (r : Region) → (polygons : List Polygon) × Fits (plane_of d) A r polygons
