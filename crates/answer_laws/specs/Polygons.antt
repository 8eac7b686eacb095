-- Polygons that fit the parts of regions.
use Rattle.std.specs.Prelude.{ℕ, ◌<◌}
use Rattle.plane_model.specs.Drawing.{Drawing, Polygon}
use Rattle.plane_model.specs.SnappedRings.{HasClosedRings}
use Rattle.region_model.specs.Region.{Region}
use Rattle.region_model.specs.Answers.{Answers, AreRight, plane_of}
use Rattle.region_model.specs.Printed.{FitsPartOf}

-- each part of a region has a polygon that fits it
abbrev pub EachPartIsPrinted : Type 0
EachPartIsPrinted = (d : Drawing) (A : Answers) → HasClosedRings d → AreRight (plane_of d) A → (r : Region) (j : ℕ) → j < A.parts r → (polygon : Polygon) × FitsPartOf (plane_of d) A r j polygon
