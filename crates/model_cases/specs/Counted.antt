-- Answers by counting ring steps, and parts and gaps by the closed runs of a boundary. That they are the right ones is
-- not proved: they are tests' own.
use Rattle.std.specs.Prelude.{ℕ, Bool, false, not, ◌&&◌, ◌||◌, List, [], ◌∷◌, length, slice_index_or}
use Rattle.std.specs.List.{list_any}
use Rattle.plane_model.specs.Points.{GridPoint, Segment, at, link_between}
use Rattle.plane_model.specs.Arcs.{joined_to}
use Rattle.plane_model.specs.Boundary.{boundary_by}
use Rattle.plane_model.specs.Parity.{rings_hold}
use Rattle.plane_model.specs.Sides.{rings_hold_left, rings_hold_right}
use Rattle.region_model.specs.Region.{Region, Regions, feature, box, any, both, less, part, gap, no_regions, one_more}
use Rattle.region_model.specs.Answers.{Plane, Answers}
use Rattle.model_cases.specs.ClosedRuns.{Side}
use Rattle.model_cases.specs.Classes.{is_in_part, is_in_gap, part_numbers, gap_numbers}

-- the boundary of what has the sides that pass
abbrev pub edges : Plane → (Side → Bool) → List Segment
edges P passes = boundary_by (λ (l : Segment). passes (rings_hold_left l)) (λ (l : Segment). passes (rings_hold_right l)) P.links

-- a test of regions by a test of the rings of one polygon
abbrev mutual
  pub test_of : Side → Plane → Region → Bool
  test_of holds P (feature n) = list_any holds (slice_index_or P.drawing.polygons n [])
  test_of holds P (box n) = holds (slice_index_or P.drawing.boxes n [] ∷ [])
  test_of holds P (any rs) = some_test_of holds P rs
  test_of holds P (both r s) = test_of holds P r && test_of holds P s
  test_of holds P (less r s) = test_of holds P r && not (test_of holds P s)
  test_of holds P (part r j) = test_of holds P r && is_in_part P.arcs (edges P (λ (side : Side). test_of side P r)) j holds
  test_of holds P (gap rs j) = not (some_test_of holds P rs) && is_in_gap P.arcs (edges P (λ (side : Side). some_test_of side P rs)) j holds

  pub some_test_of : Side → Plane → Regions → Bool
  some_test_of holds P no_regions = false
  some_test_of holds P (one_more r rs) = test_of holds P r || some_test_of holds P rs

abbrev pub counted_left : Plane → Region → Segment → Bool
counted_left P r l = test_of (rings_hold_left l) P r

abbrev pub counted_right : Plane → Region → Segment → Bool
counted_right P r l = test_of (rings_hold_right l) P r

-- a vertex on links is inside where a side of one of them is, and any other where it is held itself
abbrev pub counted_inside : Plane → Region → GridPoint → Bool
counted_inside P r p = elim (joined_to P.links p) [
  | [] ↦ test_of (rings_hold (at p)) P r
  | q ∷ qs ↦ list_any (λ (t : GridPoint). let l = link_between (record { start = p; stop = t }) in counted_left P r l || counted_right P r l) (q ∷ qs)
]

abbrev pub counted_parts : Plane → Region → ℕ
counted_parts P r = length (part_numbers P.arcs (edges P (λ (side : Side). test_of side P r)))

abbrev pub counted_gaps : Plane → Regions → ℕ
counted_gaps P rs = length (gap_numbers P.arcs (edges P (λ (side : Side). some_test_of side P rs)))

abbrev pub counted : Plane → Answers
counted P = record { left = counted_left P; right = counted_right P; inside = counted_inside P; parts = counted_parts P; gaps = counted_gaps P }
