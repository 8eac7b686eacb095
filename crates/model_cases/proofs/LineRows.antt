-- Innerlines and lines of two squares with a common side, a line clipped by a box, and lines dissolved.
use Rattle.std.proofs.Common.{◌≡◌, ℕ, pos, negsuc, refl, List, [], ◌∷◌, map}
use Rattle.plane_model.specs.Points.{GridPoint}
use Rattle.region_model.specs.Region.{Region, feature, box}
use Rattle.region_model.specs.Answers.{Plane, plane_of}
use Rattle.region_model.specs.LineCommands.{inner_lines, outer_and_inner, clipped_path, erased_path, dissolved_paths, SidedArc}
use Rattle.model_cases.specs.Counted.{counted}
use Rattle.model_cases.proofs.Drawings.{point, ring, square, of_polygons}

abbrev squares : Plane
squares = plane_of (of_polygons (square 0 0 2 2 ∷ square 2 0 4 2 ∷ []))

abbrev square_features : List Region
square_features = feature 0 ∷ feature 1 ∷ []

innerlines : inner_lines squares (counted squares) square_features ≡ (point 2 0 ∷ point 2 2 ∷ []) ∷ []
innerlines = refl

-- the lists of features at the sides of the three arcs
sides : map {B = List ℕ × List ℕ} (λ (a : SidedArc). (a.left, a.right)) (outer_and_inner squares (counted squares) square_features)
    ≡ ([], 0 ∷ []) ∷ (0 ∷ [], 1 ∷ []) ∷ (1 ∷ [], []) ∷ []
sides = refl

-- ---- a line clipped by a box: it runs along the box's side, leaves it, and comes back

abbrev low : ℕ → GridPoint
low x = record { x = pos x; y = negsuc 0 }

abbrev box_and_line : Plane
box_and_line = plane_of (record { polygons = []; lines = ((record { x = negsuc 0; y = pos 0 } ∷ point 2 0 ∷ low 2 ∷ low 3 ∷ point 3 0 ∷ point 6 0 ∷ []) ∷ []) ∷ []; points = []; boxes = ring 0 0 4 4 ∷ [] })

clipped_line : map (λ paths. map (clipped_path (counted box_and_line) (box 0)) paths) box_and_line.drawing.lines
    ≡ (((point 0 0 ∷ point 2 0 ∷ []) ∷ (point 3 0 ∷ point 4 0 ∷ []) ∷ []) ∷ []) ∷ []
clipped_line = refl

erased_line : map (λ paths. map (erased_path (counted box_and_line) (box 0)) paths) box_and_line.drawing.lines
    ≡ (((record { x = negsuc 0; y = pos 0 } ∷ point 0 0 ∷ []) ∷ (point 2 0 ∷ low 2 ∷ low 3 ∷ point 3 0 ∷ []) ∷ (point 4 0 ∷ point 6 0 ∷ []) ∷ []) ∷ []) ∷ []
erased_line = refl

-- two lines that cross, dissolved: four arcs in the order in which they were first stepped along
abbrev crossing_lines : Plane
crossing_lines = plane_of (record { polygons = []; lines = ((point 0 0 ∷ point 2 1 ∷ []) ∷ []) ∷ ((point 0 1 ∷ point 2 0 ∷ []) ∷ []) ∷ []; points = []; boxes = [] })

dissolved_lines : dissolved_paths crossing_lines ((point 0 0 ∷ point 1 1 ∷ point 2 1 ∷ []) ∷ (point 0 1 ∷ point 1 1 ∷ point 2 0 ∷ []) ∷ [])
    ≡ (point 0 0 ∷ point 1 1 ∷ []) ∷ (point 1 1 ∷ point 2 1 ∷ []) ∷ (point 0 1 ∷ point 1 1 ∷ []) ∷ (point 1 1 ∷ point 2 0 ∷ []) ∷ []
dissolved_lines = refl
