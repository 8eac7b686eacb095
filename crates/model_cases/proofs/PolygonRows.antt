-- Two squares that overlap: A from (0, 0) to (4, 4) and B from (2, 2) to (6, 6).
use Rattle.std.proofs.Common.{◌≡◌, pos, refl, ℕ, true, false, [], ◌∷◌, List, map, inl, inr}
use Rattle.grid_base.specs.declared.kinds.OverlapRule.TheVariants.{MinId, MaxId, MaxArea}
use Rattle.region_model.specs.Region.{Region, feature, any_of, both, less, part}
use Rattle.region_model.specs.Answers.{Answers, Plane, plane_of, PointsOf, boundary, area_of, is_empty}
use Rattle.region_model.specs.PolygonCommands.{dissolved, cleaned, ascending_lists, exactly, erased, mosaic, exploded}
use Rattle.model_cases.specs.Counted.{counted}
use Rattle.model_cases.proofs.Drawings.{segment, half, square, of_polygons}

abbrev pub overlapping : Plane
overlapping = plane_of (of_polygons (square 0 0 4 4 ∷ square 2 2 6 6 ∷ []))

abbrev pub A : Region
A = feature 0

abbrev pub B : Region
B = feature 1

abbrev pub answers : Answers
answers = counted overlapping

-- ---- a few rational points, by the definition

in_A_alone : PointsOf overlapping A (half 2 2)
in_A_alone = refl

in_both : PointsOf overlapping (both A B) (half 6 6)
in_both = (refl, refl)

dissolve_has_the_overlap : PointsOf overlapping (dissolved feature (0 ∷ 1 ∷ [])) (half 6 6)
dissolve_has_the_overlap = inl refl

-- by min-id, B loses the overlap and keeps the rest
B_loses_the_overlap : PointsOf overlapping (less B (any_of (A ∷ []))) (half 6 6) → ⊥
B_loses_the_overlap h = h.1 (inl refl)

B_keeps_the_rest : PointsOf overlapping (less B (any_of (A ∷ []))) (half 10 10)
B_keeps_the_rest = (refl, λ h. elim h [ inl e ↦ (let k : false ≡ true = e in cc) | inr f ↦ f ])

-- ---- clean

cleaned_by_min_id : map (cleaned overlapping answers MinId feature 2) (0 ∷ 1 ∷ []) ≡ less A (any_of []) ∷ less B (any_of (A ∷ [])) ∷ []
cleaned_by_min_id = refl

cleaned_by_max_id : map (cleaned overlapping answers MaxId feature 2) (0 ∷ 1 ∷ []) ≡ less A (any_of (B ∷ [])) ∷ less B (any_of []) ∷ []
cleaned_by_max_id = refl

-- both have twice the area 32, so the lower number ranks first
areas : area_of overlapping answers A ≡ pos 32
areas = refl

cleaned_by_max_area : map (cleaned overlapping answers MaxArea feature 2) (0 ∷ 1 ∷ []) ≡ less A (any_of []) ∷ less B (any_of (A ∷ [])) ∷ []
cleaned_by_max_area = refl

-- ---- dissolve and mosaic

-- the boundary of the dissolve: the eight steps round both squares, the region on their left
dissolved_boundary : boundary overlapping answers (dissolved feature (0 ∷ 1 ∷ []))
    ≡ segment 0 4 0 0 ∷ segment 0 0 4 0 ∷ segment 2 4 0 4 ∷ segment 2 6 2 4 ∷ segment 6 6 2 6 ∷ segment 4 0 4 2 ∷ segment 4 2 6 2 ∷ segment 6 2 6 6 ∷ []
dissolved_boundary = refl

-- twice the area of what exactly A, both, and exactly B hold
exact_areas : map (λ L. area_of overlapping answers (exactly feature 2 L)) (ascending_lists (0 ∷ 1 ∷ [])) ≡ pos 24 ∷ pos 8 ∷ pos 24 ∷ []
exact_areas = refl

lists_in_order : ascending_lists (0 ∷ 1 ∷ 2 ∷ []) ≡ (0 ∷ []) ∷ (0 ∷ 1 ∷ []) ∷ (0 ∷ 1 ∷ 2 ∷ []) ∷ (0 ∷ 2 ∷ []) ∷ (1 ∷ []) ∷ (1 ∷ 2 ∷ []) ∷ (2 ∷ []) ∷ []
lists_in_order = refl

-- a feature for each list, since each has one part
mosaic_lists : map {B = List ℕ} (λ m. m.0) (mosaic overlapping answers feature 2) ≡ (0 ∷ []) ∷ (0 ∷ 1 ∷ []) ∷ (1 ∷ []) ∷ []
mosaic_lists = refl

mosaic_areas : map (λ m. area_of overlapping answers m.1) (mosaic overlapping answers feature 2) ≡ pos 24 ∷ pos 8 ∷ pos 24 ∷ []
mosaic_areas = refl

-- ---- erase

-- a region less itself is empty
erased_by_itself : is_empty overlapping answers (erased (any_of (A ∷ B ∷ [])) A) ≡ true
erased_by_itself = refl

not_erased : is_empty overlapping answers (erased B A) ≡ false
not_erased = refl

-- ---- explode: two squares that touch at (2, 2) are two parts of one feature

abbrev touching : Plane
touching = plane_of (of_polygons (((Rattle.model_cases.proofs.Drawings.ring 2 2 4 4 ∷ []) ∷ (Rattle.model_cases.proofs.Drawings.ring 0 0 2 2 ∷ []) ∷ []) ∷ []))

two_parts : exploded touching (counted touching) A ≡ part A 0 ∷ part A 1 ∷ []
two_parts = refl

-- the first part has the arc with the number 0, of the ring that is listed first
their_boundaries : map (boundary touching (counted touching)) (exploded touching (counted touching) A)
    ≡ (segment 2 4 2 2 ∷ segment 2 2 4 2 ∷ segment 4 4 2 4 ∷ segment 4 2 4 4 ∷ []) ∷ (segment 0 2 0 0 ∷ segment 0 0 2 0 ∷ segment 2 2 0 2 ∷ segment 2 0 2 2 ∷ []) ∷ []
their_boundaries = refl
