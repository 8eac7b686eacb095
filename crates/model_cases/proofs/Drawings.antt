-- Words for the small drawings of the rows.
use Rattle.std.proofs.Common.{ℕ, pos, [], ◌∷◌, List}
use Rattle.plane_model.specs.Points.{GridPoint, RationalPoint, Path, Segment}
use Rattle.plane_model.specs.Drawing.{Drawing, Polygon}

abbrev pub point : ℕ → ℕ → GridPoint
point x y = record { x = pos x; y = pos y }

abbrev pub segment : ℕ → ℕ → ℕ → ℕ → Segment
segment a b c d = record { start = point a b; stop = point c d }

-- the place at half of each number
abbrev pub half : ℕ → ℕ → RationalPoint
half x y = record { X = pos x; Y = pos y; W = pos 2; positive = record { lt = tt } }

-- a rectangle by its corners, counterclockwise
abbrev pub ring : ℕ → ℕ → ℕ → ℕ → Path
ring a b c d = point a b ∷ point c b ∷ point c d ∷ point a d ∷ point a b ∷ []

-- a polygon of one ring
abbrev pub square : ℕ → ℕ → ℕ → ℕ → List Polygon
square a b c d = (ring a b c d ∷ []) ∷ []

abbrev pub of_polygons : List (List Polygon) → Drawing
of_polygons features = record { polygons = features; lines = []; points = []; boxes = [] }
