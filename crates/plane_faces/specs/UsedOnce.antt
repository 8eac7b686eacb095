-- The steps of a border, with the inside on their left, are used once by rings, and the rings of a part are a polygon.
use Rattle.std.specs.Prelude.{◌≡◌, ℕ, Bool, true, false, List, All}
use Rattle.plane_model.specs.Points.{Segment, Path}
use Rattle.plane_model.specs.Arrangement.{IsArrangement, IsDistinct}
use Rattle.plane_model.specs.Boundary.{boundary_by}
use Rattle.plane_model.specs.Rings.{UsesOnce}
use Rattle.plane_faces.specs.Places.{Place, outside, left_side, right_side, IsBeside, AgreesWherePlacesMeet}
use Rattle.plane_faces.specs.Labels.{IsFaceLabelling, IsPartLabelling, among, in_part}
use Rattle.plane_faces.specs.Rings.{IsRing, StartsLeast, IsPolygon}

-- the links with f on one side alone, each directed with it on the left
abbrev pub border_steps : (Place → Bool) → List Segment → List Segment
border_steps f S = boundary_by (λ l. f (left_side l)) (λ l. f (right_side l)) S

-- ---- laws

-- every border is used once by rings, each from its least vertex on
abbrev pub BordersAreUsedOnce : Type 0
BordersAreUsedOnce = (S : List Segment) → IsArrangement S → IsDistinct S → (f : Place → Bool) → AgreesWherePlacesMeet S f →
    (rings : List Path) × UsesOnce (border_steps f S) rings × All IsRing rings × All StartsLeast rings

-- any rings that use the border of a part once are one exterior and holes, which together hold the part
abbrev pub PartsUsedOnceArePolygons : Type 0
PartsUsedOnceArePolygons = (S : List Segment) → IsArrangement S → IsDistinct S → (label : Place → ℕ) → IsFaceLabelling S label → (F : ℕ → Bool) → F (label outside) ≡ false →
    (part : ℕ → ℕ) → IsPartLabelling S label F part → (n : ℕ) → (rings : List Path) → UsesOnce (border_steps (among label (in_part F part n)) S) rings → All IsRing rings →
    (b : Place) → IsBeside S b → in_part F part n (label b) ≡ true → IsPolygon S (among label (in_part F part n)) rings
