-- Gaps that clean fills, and islands that are dropped, each on a few squares.
use Rattle.std.proofs.Common.{◌≡◌, ℕ, Bool, true, false, pos, refl, List, [], ◌∷◌, map}
use Rattle.plane_model.specs.Points.{Segment}
use Rattle.grid_base.specs.declared.kinds.OverlapRule.{OverlapRule}
use Rattle.grid_base.specs.declared.kinds.OverlapRule.TheVariants.{MinArea, MaxArea}
use Rattle.region_model.specs.Region.{Region, feature, gap_of, regions_of}
use Rattle.region_model.specs.Answers.{Answers, Plane, plane_of, boundary, area_of, is_empty}
use Rattle.region_model.specs.PolygonCommands.{cleaned_and_filled, without_islands}
use Rattle.model_cases.specs.Counted.{counted}
use Rattle.model_cases.proofs.Drawings.{point, segment, ring, square, of_polygons}

-- ---- a square with a hole, and one over half of the hole: one gap of area 2 is left

abbrev holed : Plane
holed = plane_of (of_polygons (((ring 0 0 4 4 ∷ (point 1 1 ∷ point 1 3 ∷ point 3 3 ∷ point 3 1 ∷ point 1 1 ∷ []) ∷ []) ∷ []) ∷ square 1 1 2 3 ∷ []))

abbrev holed_answers : Answers
holed_answers = counted holed

abbrev features : List Region
features = feature 0 ∷ feature 1 ∷ []

one_gap : holed_answers.gaps (regions_of features) ≡ 1
one_gap = refl

twice_its_area : area_of holed holed_answers (gap_of features 0) ≡ pos 4
twice_its_area = refl

gap_boundary : boundary holed holed_answers (gap_of features 0) ≡ segment 2 3 2 1 ∷ segment 2 1 3 1 ∷ segment 3 3 2 3 ∷ segment 3 1 3 3 ∷ []
gap_boundary = refl

-- the boundaries that clean leaves, for gaps of at most this area, doubled
abbrev left_by : OverlapRule → ℕ → List (List Segment)
left_by rule most = map (λ (n : ℕ). boundary holed holed_answers (cleaned_and_filled holed holed_answers rule most feature 2 n)) (0 ∷ 1 ∷ [])

-- the larger one takes the gap: its hole is the other
filled_by_max_area : left_by MaxArea 4
    ≡ (segment 0 4 0 0 ∷ segment 0 0 4 0 ∷ segment 4 4 0 4 ∷ segment 1 1 1 3 ∷ segment 2 1 1 1 ∷ segment 1 3 2 3 ∷ segment 2 3 2 1 ∷ segment 4 0 4 4 ∷ [])
    ∷ (segment 1 3 1 1 ∷ segment 1 1 2 1 ∷ segment 2 3 1 3 ∷ segment 2 1 2 3 ∷ []) ∷ []
filled_by_max_area = refl

-- by min-area the smaller one takes it
filled_by_min_area : left_by MinArea 4
    ≡ (segment 0 4 0 0 ∷ segment 0 0 4 0 ∷ segment 4 4 0 4 ∷ segment 1 1 1 3 ∷ segment 2 1 1 1 ∷ segment 1 3 2 3 ∷ segment 3 1 2 1 ∷ segment 2 3 3 3 ∷ segment 3 3 3 1 ∷ segment 4 0 4 4 ∷ [])
    ∷ (segment 1 3 1 1 ∷ segment 1 1 2 1 ∷ segment 2 3 1 3 ∷ segment 2 1 3 1 ∷ segment 3 3 2 3 ∷ segment 3 1 3 3 ∷ []) ∷ []
filled_by_min_area = refl

-- the gap is larger than what is filled
not_filled : left_by MaxArea 3
    ≡ (segment 0 4 0 0 ∷ segment 0 0 4 0 ∷ segment 4 4 0 4 ∷ segment 1 1 1 3 ∷ segment 2 1 1 1 ∷ segment 1 3 2 3 ∷ segment 3 1 2 1 ∷ segment 2 3 3 3 ∷ segment 3 3 3 1 ∷ segment 4 0 4 4 ∷ [])
    ∷ (segment 1 3 1 1 ∷ segment 1 1 2 1 ∷ segment 2 3 1 3 ∷ segment 2 1 2 3 ∷ []) ∷ []
not_filled = refl

-- ---- two squares with a common side, and a small one apart

abbrev three : Plane
three = plane_of (of_polygons (square 0 0 2 2 ∷ square 2 0 4 2 ∷ square 10 0 11 1 ∷ []))

-- which features are left empty, for a least area, doubled, and a least number of links
abbrev left_empty : ℕ → ℕ → List Bool
left_empty least_area least_links = map (λ (n : ℕ). is_empty three (counted three) (without_islands three (counted three) least_area least_links feature 3 n)) (0 ∷ 1 ∷ 2 ∷ [])

small_area : left_empty 4 0 ≡ false ∷ false ∷ true ∷ []
small_area = refl

-- the squares with a common side are not detached
large_area : left_empty 200 0 ≡ false ∷ false ∷ true ∷ []
large_area = refl

just_as_large : left_empty 2 0 ≡ false ∷ false ∷ false ∷ []
just_as_large = refl

few_links : left_empty 0 5 ≡ false ∷ false ∷ true ∷ []
few_links = refl
