-- What polygons that fit a region hold, one by one, where a point is held by counting: an odd number of the steps of
-- all rings of a polygon is below it. All of it is said of points on no link.
use Rattle.std.specs.Prelude.{◌≡◌, ◌↔◌, true, ℕ, ◌<◌, List, [], AllPairs, length, slice_index_or}
use Rattle.std.specs.List.{AllZip, range_with_len}
use Rattle.plane_model.specs.Points.{RationalPoint}
use Rattle.plane_model.specs.Drawing.{Drawing, Polygon}
use Rattle.plane_model.specs.Joined.{AreJoinedIn}
use Rattle.plane_model.specs.Parity.{rings_hold}
use Rattle.region_model.specs.Region.{Region, part}
use Rattle.region_model.specs.Answers.{Answers, PointsOf, plane_of}
use Rattle.region_model.specs.Printed.{ArePrinted, IsOff, polygon_holds}

-- they are the parts of the region, in order: off the links each holds just the points of its part
abbrev pub PartsArePrinted : Type 0
PartsArePrinted = (d : Drawing) (A : Answers) (r : Region) (polygons : List Polygon) → ArePrinted d A r polygons → (z : RationalPoint) → IsOff d z →
    AllZip (λ j p. (rings_hold z p ≡ true) ↔ PointsOf (plane_of d) (part r j) z) (range_with_len 0 (A.parts r)) polygons

-- no point off the links is held by two of them
abbrev pub NoneIsHeldTwice : Type 0
NoneIsHeldTwice = (d : Drawing) (A : Answers) (r : Region) (polygons : List Polygon) → ArePrinted d A r polygons → (z : RationalPoint) → IsOff d z →
    AllPairs (λ p q. rings_hold z p ≡ true → rings_hold z q ≡ true → ⊥) polygons

-- each point of the region off the links is held by one of them, and so is, by the same, each such point that is joined
-- with it in the region
abbrev pub JoinedPointsAreHeldByOne : Type 0
JoinedPointsAreHeldByOne = (d : Drawing) (A : Answers) (r : Region) (polygons : List Polygon) → ArePrinted d A r polygons → (z : RationalPoint) → IsOff d z → PointsOf (plane_of d) r z →
    (k : ℕ) × (k < length polygons) × (rings_hold z (slice_index_or polygons k []) ≡ true)
    × ((w : RationalPoint) → IsOff d w → PointsOf (plane_of d) r w → AreJoinedIn (plane_of d).links (PointsOf (plane_of d) r) z w → rings_hold w (slice_index_or polygons k []) ≡ true)

-- ---- read by exteriors and holes

-- a point off the links is in the region exactly if it lies in some polygon, inside its exterior and inside no hole
abbrev pub RegionsAreRead : Type 0
RegionsAreRead = (d : Drawing) (A : Answers) (r : Region) (polygons : List Polygon) → ArePrinted d A r polygons → (z : RationalPoint) → IsOff d z →
    ((k : ℕ) × (k < length polygons) × (polygon_holds z (slice_index_or polygons k []) ≡ true)) ↔ PointsOf (plane_of d) r z
