-- Twice the area that signed arcs go round, by their steps.
use Rattle.std.specs.Prelude.{ℕ, ℤ, ◌*◌, ◌≤◌, List, unsigned_abs}
use Rattle.std.specs.List.{flat_map}
use Rattle.plane_model.specs.Points.{Path}
use Rattle.plane_model.specs.Drawing.{steps}
use Rattle.plane_model.specs.Arcs.{SignedArc, points_of}
use Rattle.plane_model.specs.Boundary.{twice_area}
use Rattle.grid_base.specs.Grid.{limit}

-- the sum of x1 * y2 - y1 * x2 over the steps of a path, and over those of signed arcs
abbrev pub area_along : Path → ℤ
area_along path = twice_area (steps path)

abbrev pub area_within : List Path → List SignedArc → ℤ
area_within arcs along = twice_area (flat_map (λ (a : SignedArc). steps (points_of arcs a)) along)

-- twice the area of a triangle with a corner at the origin
abbrev pub most_triangle : ℕ
most_triangle = 2 * (limit * limit)

abbrev pub IsTriangle : ℤ → Type 0
IsTriangle z = unsigned_abs z ≤ most_triangle
