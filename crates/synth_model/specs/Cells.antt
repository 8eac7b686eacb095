-- The cells of a made-up mosaic: n rows of n overlapping quadrangles, whose corners draws move.
use Rattle.std.specs.Prelude.{ℕ, ◌+◌, ◌*◌, ◌/◌, ◌%◌, pos, [], ◌∷◌, List, map}
use Rattle.std.specs.List.{range_with_len}
use Rattle.plane_model.specs.Points.{GridPoint, Path}
use Rattle.plane_model.specs.Drawing.{Drawing, Polygon}
use Rattle.synth_model.specs.Draws.{draw}

abbrev pub point : ℕ → ℕ → GridPoint
point x y = record { x = pos x; y = pos y }

-- the ring of a cell with its first corner at (x, y), which stands fast, by the first six of some draws
abbrev pub cell_ring : ℕ → ℕ → (ℕ → ℕ) → Path
cell_ring x y d = point x y ∷ point (x + 140 + d 1) (y + d 2) ∷ point (x + 140 + d 3) (y + 140 + d 4) ∷ point (x + d 5) (y + 140 + d 6) ∷ point x y ∷ []

-- cell number c of n rows of n, which takes the next six draws
abbrev pub cell : ℕ → ℕ → ℕ → List Polygon
cell seed n c = (cell_ring (100 * (c / n)) (100 * (c % n)) (λ (k : ℕ). draw seed (6 * c + k)) ∷ []) ∷ []

abbrev pub cells : ℕ → ℕ → Drawing
cells seed n = record { polygons = map (cell seed n) (range_with_len 0 (n * n)); lines = []; points = []; boxes = [] }
