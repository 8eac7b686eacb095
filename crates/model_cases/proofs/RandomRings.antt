-- The printed rings that an independent reference makes of random regions, by the definitions on rings.
use Rattle.std.proofs.Common.{◌≡◌, refl, ℕ, ℤ, pos, negsuc, List, [], ◌∷◌, map, true, false, Bool, ◌&&◌, not}
use Rattle.std.specs.Prelude.{int_lt, nat_lt}
use Rattle.std.specs.List.{list_all, list_any}
use Rattle.lists.specs.Lists.{joined_up, ascending, same_list, tail, neighbours, has, first_or}
use Rattle.plane_model.specs.Points.{GridPoint, Segment, Path, same_point, same_segment, link_between, link_before}
use Rattle.plane_model.specs.Drawing.{Polygon, steps, steps_of_paths}
use Rattle.plane_model.specs.Arcs.{begins_arc, points_of}
use Rattle.plane_model.specs.Rings.{turn_at_least, least_arc}
use Rattle.region_model.specs.Region.{Region, feature, any_of, both, less}
use Rattle.region_model.specs.Answers.{Answers, Plane, boundary, plane_of}
use Rattle.model_cases.specs.Counted.{counted}

abbrev p : ℤ → ℤ → GridPoint
p x y = record { x = x; y = y }

-- steps in the order of their links
abbrev step_before : Segment → Segment → Bool
step_before s t = link_before (link_between s) (link_between t)

abbrev distinct : Path → Bool
distinct [] = true
distinct (q ∷ qs) = not (has same_point qs q) && distinct qs

abbrev begins : List Path → Path → Bool
begins arcs ring = list_any (λ (b : Bool). begins_arc (first_or (record { start = p (pos 0) (pos 0); stop = p (pos 0) (pos 0) }) (steps ring)) (points_of arcs (record { arc = least_arc arcs ring; is_reversed = b }))) (true ∷ false ∷ [])

abbrev rising : List ℕ → Bool
rising ns = list_all (λ (q : ℕ × ℕ). nat_lt q.0 q.1) (neighbours ns)

abbrev polygon_fits : List Path → Polygon → Bool
polygon_fits arcs [] = false
polygon_fits arcs (exterior ∷ holes) =
    int_lt (pos 0) (turn_at_least exterior) && list_all (λ (h : Path). int_lt (turn_at_least h) (pos 0)) holes && rising (map (least_arc arcs) holes)
    && list_all (λ (r : Path). distinct (tail r) && begins arcs r) (exterior ∷ holes)

abbrev fit : Plane → Answers → Region → List Polygon → Bool
fit P A r ps =
    same_list same_segment (ascending step_before (steps_of_paths (joined_up ps))) (boundary P A r) && list_all (polygon_fits P.arcs) ps

abbrev c0 : Plane
c0 = plane_of (record { polygons = ((((p (negsuc 0) (pos 1) ∷ p (pos 3) (pos 2) ∷ p (pos 2) (pos 5) ∷ p (pos 5) (pos 1) ∷ p (negsuc 0) (pos 1) ∷ []) ∷ []) ∷ []) ∷ (((p (pos 1) (pos 3) ∷ p (pos 0) (pos 3) ∷ p (pos 0) (pos 1) ∷ p (pos 0) (pos 5) ∷ p (pos 1) (pos 3) ∷ []) ∷ []) ∷ []) ∷ []); lines = ([]); points = ([]); boxes = ([]) })

c0-0 : fit c0 (counted c0) (feature 0) (((p (pos 0) (pos 1) ∷ p (pos 5) (pos 1) ∷ p (pos 2) (pos 5) ∷ p (pos 3) (pos 2) ∷ p (pos 0) (pos 1) ∷ []) ∷ []) ∷ []) ≡ true
c0-0 = refl

c0-2 : fit c0 (counted c0) (less (feature 0) (feature 1)) (((p (pos 0) (pos 1) ∷ p (pos 5) (pos 1) ∷ p (pos 2) (pos 5) ∷ p (pos 3) (pos 2) ∷ p (pos 0) (pos 1) ∷ []) ∷ []) ∷ []) ≡ true
c0-2 = refl

c0-3 : fit c0 (counted c0) (any_of (feature 0 ∷ feature 1 ∷ [])) (((p (pos 0) (pos 1) ∷ p (pos 5) (pos 1) ∷ p (pos 2) (pos 5) ∷ p (pos 3) (pos 2) ∷ p (pos 0) (pos 1) ∷ []) ∷ []) ∷ ((p (pos 0) (pos 3) ∷ p (pos 1) (pos 3) ∷ p (pos 0) (pos 5) ∷ p (pos 0) (pos 3) ∷ []) ∷ []) ∷ []) ≡ true
c0-3 = refl

abbrev c1 : Plane
c1 = plane_of (record { polygons = ((((p (negsuc 0) (pos 1) ∷ p (negsuc 0) (pos 2) ∷ p (pos 2) (pos 2) ∷ p (pos 4) (pos 2) ∷ p (pos 0) (negsuc 0) ∷ p (negsuc 0) (pos 1) ∷ []) ∷ []) ∷ []) ∷ (((p (negsuc 0) (pos 2) ∷ p (pos 2) (pos 3) ∷ p (negsuc 0) (pos 4) ∷ p (pos 2) (pos 1) ∷ p (negsuc 0) (pos 2) ∷ []) ∷ []) ∷ []) ∷ []); lines = ([]); points = ([]); boxes = ([]) })

c1-0 : fit c1 (counted c1) (feature 0) (((p (negsuc 0) (pos 2) ∷ p (negsuc 0) (pos 1) ∷ p (pos 0) (negsuc 0) ∷ p (pos 2) (pos 1) ∷ p (pos 4) (pos 2) ∷ p (pos 2) (pos 2) ∷ p (pos 1) (pos 2) ∷ p (negsuc 0) (pos 2) ∷ []) ∷ []) ∷ []) ≡ true
c1-0 = refl

c1-1 : fit c1 (counted c1) (both (feature 0) (feature 1)) (((p (pos 2) (pos 2) ∷ p (pos 1) (pos 2) ∷ p (pos 2) (pos 1) ∷ p (pos 2) (pos 2) ∷ []) ∷ []) ∷ []) ≡ true
c1-1 = refl

c1-2 : fit c1 (counted c1) (less (feature 0) (feature 1)) (((p (negsuc 0) (pos 2) ∷ p (negsuc 0) (pos 1) ∷ p (pos 0) (negsuc 0) ∷ p (pos 2) (pos 1) ∷ p (pos 1) (pos 2) ∷ p (negsuc 0) (pos 2) ∷ []) ∷ []) ∷ ((p (pos 2) (pos 1) ∷ p (pos 4) (pos 2) ∷ p (pos 2) (pos 2) ∷ p (pos 2) (pos 1) ∷ []) ∷ []) ∷ []) ≡ true
c1-2 = refl

c1-3 : fit c1 (counted c1) (any_of (feature 0 ∷ feature 1 ∷ [])) (((p (negsuc 0) (pos 2) ∷ p (negsuc 0) (pos 1) ∷ p (pos 0) (negsuc 0) ∷ p (pos 2) (pos 1) ∷ p (pos 4) (pos 2) ∷ p (pos 2) (pos 2) ∷ p (pos 1) (pos 2) ∷ p (pos 1) (pos 3) ∷ p (negsuc 0) (pos 2) ∷ []) ∷ []) ∷ []) ≡ true
c1-3 = refl

abbrev c2 : Plane
c2 = plane_of (record { polygons = ((((p (negsuc 0) (pos 1) ∷ p (pos 0) (pos 4) ∷ p (pos 4) (pos 1) ∷ p (negsuc 0) (pos 1) ∷ []) ∷ []) ∷ []) ∷ (((p (pos 3) (pos 0) ∷ p (pos 3) (negsuc 0) ∷ p (pos 3) (pos 4) ∷ p (pos 0) (pos 2) ∷ p (pos 3) (pos 0) ∷ []) ∷ []) ∷ []) ∷ []); lines = ([]); points = ([]); boxes = ([]) })

c2-0 : fit c2 (counted c2) (feature 0) (((p (pos 1) (pos 3) ∷ p (pos 0) (pos 4) ∷ p (negsuc 0) (pos 1) ∷ p (pos 2) (pos 1) ∷ p (pos 3) (pos 1) ∷ p (pos 3) (pos 2) ∷ p (pos 1) (pos 3) ∷ []) ∷ []) ∷ []) ≡ true
c2-0 = refl

c2-1 : fit c2 (counted c2) (both (feature 0) (feature 1)) (((p (pos 3) (pos 2) ∷ p (pos 1) (pos 3) ∷ p (pos 0) (pos 2) ∷ p (pos 2) (pos 1) ∷ p (pos 3) (pos 1) ∷ p (pos 3) (pos 2) ∷ []) ∷ []) ∷ []) ≡ true
c2-1 = refl

c2-2 : fit c2 (counted c2) (less (feature 0) (feature 1)) (((p (pos 1) (pos 3) ∷ p (pos 0) (pos 4) ∷ p (negsuc 0) (pos 1) ∷ p (pos 2) (pos 1) ∷ p (pos 0) (pos 2) ∷ p (pos 1) (pos 3) ∷ []) ∷ []) ∷ []) ≡ true
c2-2 = refl

c2-3 : fit c2 (counted c2) (any_of (feature 0 ∷ feature 1 ∷ [])) (((p (pos 1) (pos 3) ∷ p (pos 0) (pos 4) ∷ p (negsuc 0) (pos 1) ∷ p (pos 2) (pos 1) ∷ p (pos 3) (pos 0) ∷ p (pos 3) (pos 1) ∷ p (pos 3) (pos 2) ∷ p (pos 3) (pos 4) ∷ p (pos 1) (pos 3) ∷ []) ∷ []) ∷ []) ≡ true
c2-3 = refl

abbrev c3 : Plane
c3 = plane_of (record { polygons = ((((p (pos 3) (pos 0) ∷ p (pos 1) (pos 3) ∷ p (pos 2) (pos 4) ∷ p (pos 3) (negsuc 0) ∷ p (pos 3) (negsuc 0) ∷ p (pos 3) (pos 0) ∷ []) ∷ []) ∷ []) ∷ (((p (pos 1) (pos 3) ∷ p (pos 0) (pos 0) ∷ p (pos 4) (pos 2) ∷ p (pos 3) (pos 3) ∷ p (pos 1) (pos 3) ∷ []) ∷ []) ∷ []) ∷ []); lines = ([]); points = ([]); boxes = ([]) })

c3-0 : fit c3 (counted c3) (feature 0) (((p (pos 2) (pos 1) ∷ p (pos 3) (pos 1) ∷ p (pos 2) (pos 3) ∷ p (pos 2) (pos 4) ∷ p (pos 1) (pos 3) ∷ p (pos 2) (pos 1) ∷ []) ∷ []) ∷ []) ≡ true
c3-0 = refl

c3-1 : fit c3 (counted c3) (both (feature 0) (feature 1)) (((p (pos 2) (pos 1) ∷ p (pos 3) (pos 1) ∷ p (pos 2) (pos 3) ∷ p (pos 1) (pos 3) ∷ p (pos 2) (pos 1) ∷ []) ∷ []) ∷ []) ≡ true
c3-1 = refl

c3-2 : fit c3 (counted c3) (less (feature 0) (feature 1)) (((p (pos 2) (pos 3) ∷ p (pos 2) (pos 4) ∷ p (pos 1) (pos 3) ∷ p (pos 2) (pos 3) ∷ []) ∷ []) ∷ []) ≡ true
c3-2 = refl

c3-3 : fit c3 (counted c3) (any_of (feature 0 ∷ feature 1 ∷ [])) (((p (pos 2) (pos 1) ∷ p (pos 3) (pos 1) ∷ p (pos 4) (pos 2) ∷ p (pos 3) (pos 3) ∷ p (pos 2) (pos 3) ∷ p (pos 2) (pos 4) ∷ p (pos 1) (pos 3) ∷ p (pos 0) (pos 0) ∷ p (pos 2) (pos 1) ∷ []) ∷ []) ∷ []) ≡ true
c3-3 = refl

abbrev c4 : Plane
c4 = plane_of (record { polygons = ((((p (negsuc 0) (pos 4) ∷ p (pos 2) (pos 2) ∷ p (pos 0) (negsuc 0) ∷ p (negsuc 0) (negsuc 0) ∷ p (negsuc 0) (pos 4) ∷ []) ∷ []) ∷ []) ∷ (((p (pos 3) (pos 1) ∷ p (negsuc 0) (pos 0) ∷ p (pos 3) (pos 3) ∷ p (pos 1) (pos 1) ∷ p (pos 3) (pos 1) ∷ []) ∷ []) ∷ []) ∷ []); lines = ([]); points = ([]); boxes = ([]) })

c4-0 : fit c4 (counted c4) (feature 0) (((p (pos 2) (pos 2) ∷ p (negsuc 0) (pos 4) ∷ p (negsuc 0) (pos 0) ∷ p (negsuc 0) (negsuc 0) ∷ p (pos 0) (negsuc 0) ∷ p (pos 1) (pos 1) ∷ p (pos 2) (pos 2) ∷ []) ∷ []) ∷ []) ≡ true
c4-0 = refl

c4-2 : fit c4 (counted c4) (less (feature 0) (feature 1)) (((p (pos 2) (pos 2) ∷ p (negsuc 0) (pos 4) ∷ p (negsuc 0) (pos 0) ∷ p (negsuc 0) (negsuc 0) ∷ p (pos 0) (negsuc 0) ∷ p (pos 1) (pos 1) ∷ p (pos 2) (pos 2) ∷ []) ∷ []) ∷ []) ≡ true
c4-2 = refl

c4-3 : fit c4 (counted c4) (any_of (feature 0 ∷ feature 1 ∷ [])) (((p (pos 2) (pos 2) ∷ p (negsuc 0) (pos 4) ∷ p (negsuc 0) (pos 0) ∷ p (negsuc 0) (negsuc 0) ∷ p (pos 0) (negsuc 0) ∷ p (pos 1) (pos 1) ∷ p (pos 2) (pos 2) ∷ []) ∷ []) ∷ []) ≡ true
c4-3 = refl

abbrev c5 : Plane
c5 = plane_of (record { polygons = ((((p (pos 4) (negsuc 0) ∷ p (pos 6) (pos 2) ∷ p (negsuc 0) (pos 1) ∷ p (pos 0) (pos 4) ∷ p (pos 4) (negsuc 0) ∷ []) ∷ []) ∷ []) ∷ (((p (pos 2) (pos 5) ∷ p (pos 0) (pos 2) ∷ p (negsuc 0) (pos 2) ∷ p (pos 5) (pos 3) ∷ p (pos 2) (pos 5) ∷ []) ∷ []) ∷ []) ∷ []); lines = ([]); points = ([]); boxes = ([]) })

c5-0 : fit c5 (counted c5) (feature 0) (((p (pos 2) (pos 1) ∷ p (pos 4) (negsuc 0) ∷ p (pos 6) (pos 2) ∷ p (pos 2) (pos 1) ∷ []) ∷ []) ∷ ((p (negsuc 0) (pos 2) ∷ p (negsuc 0) (pos 1) ∷ p (pos 2) (pos 1) ∷ p (pos 1) (pos 2) ∷ p (pos 1) (pos 3) ∷ p (pos 0) (pos 4) ∷ p (negsuc 0) (pos 2) ∷ []) ∷ []) ∷ []) ≡ true
c5-0 = refl

c5-1 : fit c5 (counted c5) (both (feature 0) (feature 1)) (((p (pos 1) (pos 2) ∷ p (pos 1) (pos 3) ∷ p (pos 0) (pos 2) ∷ p (pos 1) (pos 2) ∷ []) ∷ []) ∷ []) ≡ true
c5-1 = refl

c5-2 : fit c5 (counted c5) (less (feature 0) (feature 1)) (((p (pos 2) (pos 1) ∷ p (pos 4) (negsuc 0) ∷ p (pos 6) (pos 2) ∷ p (pos 2) (pos 1) ∷ []) ∷ []) ∷ ((p (negsuc 0) (pos 2) ∷ p (negsuc 0) (pos 1) ∷ p (pos 2) (pos 1) ∷ p (pos 1) (pos 2) ∷ p (pos 0) (pos 2) ∷ p (pos 1) (pos 3) ∷ p (pos 0) (pos 4) ∷ p (negsuc 0) (pos 2) ∷ []) ∷ []) ∷ []) ≡ true
c5-2 = refl

c5-3 : fit c5 (counted c5) (any_of (feature 0 ∷ feature 1 ∷ [])) (((p (pos 2) (pos 1) ∷ p (pos 4) (negsuc 0) ∷ p (pos 6) (pos 2) ∷ p (pos 2) (pos 1) ∷ []) ∷ []) ∷ ((p (negsuc 0) (pos 2) ∷ p (negsuc 0) (pos 1) ∷ p (pos 2) (pos 1) ∷ p (pos 1) (pos 2) ∷ p (pos 5) (pos 3) ∷ p (pos 2) (pos 5) ∷ p (pos 1) (pos 3) ∷ p (pos 0) (pos 4) ∷ p (negsuc 0) (pos 2) ∷ []) ∷ []) ∷ []) ≡ true
c5-3 = refl

abbrev c6 : Plane
c6 = plane_of (record { polygons = ((((p (pos 6) (pos 3) ∷ p (negsuc 0) (negsuc 0) ∷ p (pos 1) (pos 6) ∷ p (pos 6) (pos 3) ∷ []) ∷ []) ∷ []) ∷ (((p (pos 4) (pos 4) ∷ p (negsuc 0) (pos 3) ∷ p (pos 6) (pos 2) ∷ p (pos 5) (pos 0) ∷ p (pos 2) (pos 3) ∷ p (pos 4) (pos 4) ∷ []) ∷ []) ∷ []) ∷ []); lines = ([]); points = ([]); boxes = ([]) })

c6-0 : fit c6 (counted c6) (feature 0) (((p (pos 5) (pos 2) ∷ p (pos 6) (pos 3) ∷ p (pos 4) (pos 4) ∷ p (pos 1) (pos 6) ∷ p (pos 0) (pos 3) ∷ p (negsuc 0) (negsuc 0) ∷ p (pos 3) (pos 2) ∷ p (pos 5) (pos 2) ∷ []) ∷ []) ∷ []) ≡ true
c6-0 = refl

c6-1 : fit c6 (counted c6) (both (feature 0) (feature 1)) (((p (pos 4) (pos 4) ∷ p (pos 0) (pos 3) ∷ p (pos 2) (pos 3) ∷ p (pos 3) (pos 3) ∷ p (pos 4) (pos 4) ∷ []) ∷ []) ∷ []) ≡ true
c6-1 = refl

c6-2 : fit c6 (counted c6) (less (feature 0) (feature 1)) (((p (pos 5) (pos 2) ∷ p (pos 6) (pos 3) ∷ p (pos 4) (pos 4) ∷ p (pos 3) (pos 3) ∷ p (pos 2) (pos 3) ∷ p (pos 0) (pos 3) ∷ p (negsuc 0) (negsuc 0) ∷ p (pos 3) (pos 2) ∷ p (pos 5) (pos 2) ∷ []) ∷ []) ∷ ((p (pos 4) (pos 4) ∷ p (pos 1) (pos 6) ∷ p (pos 0) (pos 3) ∷ p (pos 4) (pos 4) ∷ []) ∷ []) ∷ []) ≡ true
c6-2 = refl

c6-3 : fit c6 (counted c6) (any_of (feature 0 ∷ feature 1 ∷ [])) (((p (pos 5) (pos 2) ∷ p (pos 6) (pos 3) ∷ p (pos 4) (pos 4) ∷ p (pos 1) (pos 6) ∷ p (pos 0) (pos 3) ∷ p (negsuc 0) (negsuc 0) ∷ p (pos 3) (pos 2) ∷ p (pos 5) (pos 0) ∷ p (pos 6) (pos 2) ∷ p (pos 5) (pos 2) ∷ []) ∷ []) ∷ []) ≡ true
c6-3 = refl

abbrev c7 : Plane
c7 = plane_of (record { polygons = ((((p (pos 2) (pos 4) ∷ p (negsuc 0) (negsuc 0) ∷ p (pos 5) (pos 3) ∷ p (pos 2) (pos 4) ∷ []) ∷ []) ∷ []) ∷ (((p (pos 1) (pos 3) ∷ p (negsuc 0) (pos 3) ∷ p (pos 0) (negsuc 0) ∷ p (pos 1) (pos 3) ∷ []) ∷ []) ∷ []) ∷ []); lines = ([]); points = ([]); boxes = ([]) })

c7-0 : fit c7 (counted c7) (feature 0) (((p (pos 0) (pos 0) ∷ p (pos 5) (pos 3) ∷ p (pos 2) (pos 4) ∷ p (pos 1) (pos 3) ∷ p (pos 1) (pos 2) ∷ p (pos 0) (pos 0) ∷ []) ∷ []) ∷ ((p (pos 0) (pos 0) ∷ p (negsuc 0) (negsuc 0) ∷ p (pos 0) (negsuc 0) ∷ p (pos 0) (pos 0) ∷ []) ∷ []) ∷ []) ≡ true
c7-0 = refl

c7-2 : fit c7 (counted c7) (less (feature 0) (feature 1)) (((p (pos 0) (pos 0) ∷ p (pos 5) (pos 3) ∷ p (pos 2) (pos 4) ∷ p (pos 1) (pos 3) ∷ p (pos 1) (pos 2) ∷ p (pos 0) (pos 0) ∷ []) ∷ []) ∷ ((p (pos 0) (pos 0) ∷ p (negsuc 0) (negsuc 0) ∷ p (pos 0) (negsuc 0) ∷ p (pos 0) (pos 0) ∷ []) ∷ []) ∷ []) ≡ true
c7-2 = refl

c7-3 : fit c7 (counted c7) (any_of (feature 0 ∷ feature 1 ∷ [])) (((p (pos 0) (pos 0) ∷ p (pos 5) (pos 3) ∷ p (pos 2) (pos 4) ∷ p (pos 1) (pos 3) ∷ p (negsuc 0) (pos 3) ∷ p (pos 0) (pos 0) ∷ []) ∷ []) ∷ ((p (pos 0) (pos 0) ∷ p (negsuc 0) (negsuc 0) ∷ p (pos 0) (negsuc 0) ∷ p (pos 0) (pos 0) ∷ []) ∷ []) ∷ []) ≡ true
c7-3 = refl

abbrev c8 : Plane
c8 = plane_of (record { polygons = ((((p (pos 2) (pos 0) ∷ p (pos 0) (pos 4) ∷ p (negsuc 0) (negsuc 0) ∷ p (pos 0) (pos 0) ∷ p (pos 2) (pos 0) ∷ []) ∷ []) ∷ []) ∷ (((p (pos 0) (pos 2) ∷ p (pos 4) (negsuc 0) ∷ p (pos 2) (pos 2) ∷ p (pos 2) (pos 2) ∷ p (pos 2) (pos 3) ∷ p (pos 0) (pos 2) ∷ []) ∷ []) ∷ []) ∷ []); lines = ([]); points = ([]); boxes = ([]) })

c8-0 : fit c8 (counted c8) (feature 0) (((p (pos 2) (pos 0) ∷ p (pos 2) (pos 1) ∷ p (pos 1) (pos 2) ∷ p (pos 0) (pos 4) ∷ p (pos 0) (pos 2) ∷ p (negsuc 0) (negsuc 0) ∷ p (pos 0) (pos 0) ∷ p (pos 2) (pos 0) ∷ []) ∷ []) ∷ []) ≡ true
c8-0 = refl

c8-2 : fit c8 (counted c8) (less (feature 0) (feature 1)) (((p (pos 2) (pos 0) ∷ p (pos 2) (pos 1) ∷ p (pos 1) (pos 2) ∷ p (pos 0) (pos 4) ∷ p (pos 0) (pos 2) ∷ p (negsuc 0) (negsuc 0) ∷ p (pos 0) (pos 0) ∷ p (pos 2) (pos 0) ∷ []) ∷ []) ∷ []) ≡ true
c8-2 = refl

c8-3 : fit c8 (counted c8) (any_of (feature 0 ∷ feature 1 ∷ [])) (((p (pos 1) (pos 2) ∷ p (pos 0) (pos 4) ∷ p (pos 0) (pos 2) ∷ p (negsuc 0) (negsuc 0) ∷ p (pos 0) (pos 0) ∷ p (pos 2) (pos 0) ∷ p (pos 4) (negsuc 0) ∷ p (pos 2) (pos 1) ∷ p (pos 2) (pos 2) ∷ p (pos 2) (pos 3) ∷ p (pos 1) (pos 2) ∷ []) ∷ []) ∷ []) ≡ true
c8-3 = refl

abbrev c9 : Plane
c9 = plane_of (record { polygons = ((((p (pos 1) (pos 1) ∷ p (pos 0) (pos 0) ∷ p (pos 5) (pos 4) ∷ p (negsuc 0) (pos 1) ∷ p (pos 3) (pos 2) ∷ p (pos 1) (pos 1) ∷ []) ∷ []) ∷ []) ∷ (((p (negsuc 0) (pos 1) ∷ p (pos 3) (pos 3) ∷ p (pos 4) (negsuc 0) ∷ p (pos 4) (pos 2) ∷ p (pos 0) (pos 4) ∷ p (negsuc 0) (pos 1) ∷ []) ∷ []) ∷ []) ∷ []); lines = ([]); points = ([]); boxes = ([]) })

c9-0 : fit c9 (counted c9) (feature 0) (((p (pos 2) (pos 2) ∷ p (pos 3) (pos 2) ∷ p (pos 3) (pos 3) ∷ p (pos 2) (pos 2) ∷ []) ∷ []) ∷ ((p (pos 2) (pos 2) ∷ p (negsuc 0) (pos 1) ∷ p (pos 1) (pos 1) ∷ p (pos 2) (pos 2) ∷ []) ∷ []) ∷ []) ≡ true
c9-0 = refl

c9-2 : fit c9 (counted c9) (less (feature 0) (feature 1)) (((p (pos 2) (pos 2) ∷ p (pos 3) (pos 2) ∷ p (pos 3) (pos 3) ∷ p (pos 2) (pos 2) ∷ []) ∷ []) ∷ ((p (pos 2) (pos 2) ∷ p (negsuc 0) (pos 1) ∷ p (pos 1) (pos 1) ∷ p (pos 2) (pos 2) ∷ []) ∷ []) ∷ []) ≡ true
c9-2 = refl

c9-3 : fit c9 (counted c9) (any_of (feature 0 ∷ feature 1 ∷ [])) (((p (pos 2) (pos 2) ∷ p (pos 3) (pos 2) ∷ p (pos 3) (pos 3) ∷ p (pos 0) (pos 4) ∷ p (negsuc 0) (pos 1) ∷ p (pos 1) (pos 1) ∷ p (pos 2) (pos 2) ∷ []) ∷ []) ∷ ((p (pos 3) (pos 2) ∷ p (pos 4) (negsuc 0) ∷ p (pos 4) (pos 2) ∷ p (pos 3) (pos 2) ∷ []) ∷ []) ∷ []) ≡ true
c9-3 = refl

abbrev c10 : Plane
c10 = plane_of (record { polygons = ((((p (pos 5) (pos 6) ∷ p (negsuc 0) (pos 2) ∷ p (pos 6) (pos 6) ∷ p (pos 5) (pos 6) ∷ []) ∷ []) ∷ []) ∷ (((p (pos 1) (negsuc 0) ∷ p (pos 6) (pos 4) ∷ p (pos 0) (pos 2) ∷ p (pos 4) (negsuc 0) ∷ p (pos 1) (negsuc 0) ∷ []) ∷ []) ∷ []) ∷ []); lines = ([]); points = ([]); boxes = ([]) })

c10-3 : fit c10 (counted c10) (any_of (feature 0 ∷ feature 1 ∷ [])) (((p (pos 2) (pos 0) ∷ p (pos 1) (negsuc 0) ∷ p (pos 4) (negsuc 0) ∷ p (pos 2) (pos 0) ∷ []) ∷ []) ∷ ((p (pos 2) (pos 0) ∷ p (pos 6) (pos 4) ∷ p (pos 0) (pos 2) ∷ p (pos 2) (pos 0) ∷ []) ∷ []) ∷ []) ≡ true
c10-3 = refl

abbrev c11 : Plane
c11 = plane_of (record { polygons = ((((p (pos 5) (pos 5) ∷ p (pos 2) (pos 2) ∷ p (pos 3) (pos 5) ∷ p (pos 3) (pos 0) ∷ p (pos 0) (pos 5) ∷ p (pos 5) (pos 5) ∷ []) ∷ []) ∷ []) ∷ (((p (pos 2) (pos 4) ∷ p (pos 3) (pos 5) ∷ p (pos 0) (negsuc 0) ∷ p (pos 2) (pos 1) ∷ p (pos 0) (negsuc 0) ∷ p (pos 2) (pos 4) ∷ []) ∷ []) ∷ []) ∷ []); lines = ([]); points = ([]); boxes = ([]) })

c11-0 : fit c11 (counted c11) (feature 0) (((p (pos 3) (pos 3) ∷ p (pos 5) (pos 5) ∷ p (pos 3) (pos 5) ∷ p (pos 3) (pos 3) ∷ []) ∷ []) ∷ ((p (pos 3) (pos 3) ∷ p (pos 2) (pos 2) ∷ p (pos 2) (pos 1) ∷ p (pos 3) (pos 0) ∷ p (pos 3) (pos 3) ∷ []) ∷ []) ∷ ((p (pos 2) (pos 2) ∷ p (pos 3) (pos 5) ∷ p (pos 0) (pos 5) ∷ p (pos 1) (pos 3) ∷ p (pos 2) (pos 2) ∷ []) ∷ []) ∷ []) ≡ true
c11-0 = refl

c11-1 : fit c11 (counted c11) (both (feature 0) (feature 1)) (((p (pos 1) (pos 3) ∷ p (pos 2) (pos 2) ∷ p (pos 2) (pos 4) ∷ p (pos 1) (pos 3) ∷ []) ∷ []) ∷ []) ≡ true
c11-1 = refl

c11-2 : fit c11 (counted c11) (less (feature 0) (feature 1)) (((p (pos 3) (pos 3) ∷ p (pos 5) (pos 5) ∷ p (pos 3) (pos 5) ∷ p (pos 3) (pos 3) ∷ []) ∷ []) ∷ ((p (pos 3) (pos 3) ∷ p (pos 2) (pos 2) ∷ p (pos 2) (pos 1) ∷ p (pos 3) (pos 0) ∷ p (pos 3) (pos 3) ∷ []) ∷ []) ∷ ((p (pos 2) (pos 2) ∷ p (pos 3) (pos 5) ∷ p (pos 0) (pos 5) ∷ p (pos 1) (pos 3) ∷ p (pos 2) (pos 4) ∷ p (pos 2) (pos 2) ∷ []) ∷ []) ∷ []) ≡ true
c11-2 = refl

c11-3 : fit c11 (counted c11) (any_of (feature 0 ∷ feature 1 ∷ [])) (((p (pos 3) (pos 3) ∷ p (pos 5) (pos 5) ∷ p (pos 3) (pos 5) ∷ p (pos 3) (pos 3) ∷ []) ∷ []) ∷ ((p (pos 3) (pos 3) ∷ p (pos 2) (pos 2) ∷ p (pos 2) (pos 1) ∷ p (pos 3) (pos 0) ∷ p (pos 3) (pos 3) ∷ []) ∷ []) ∷ ((p (pos 2) (pos 2) ∷ p (pos 3) (pos 5) ∷ p (pos 0) (pos 5) ∷ p (pos 1) (pos 3) ∷ p (pos 0) (negsuc 0) ∷ p (pos 2) (pos 2) ∷ []) ∷ []) ∷ []) ≡ true
c11-3 = refl

abbrev c12 : Plane
c12 = plane_of (record { polygons = ((((p (pos 4) (pos 3) ∷ p (pos 4) (pos 1) ∷ p (pos 0) (pos 2) ∷ p (negsuc 0) (pos 1) ∷ p (pos 4) (pos 3) ∷ []) ∷ []) ∷ []) ∷ (((p (pos 1) (pos 4) ∷ p (pos 5) (pos 2) ∷ p (pos 4) (pos 5) ∷ p (pos 3) (pos 0) ∷ p (pos 1) (pos 4) ∷ []) ∷ []) ∷ []) ∷ []); lines = ([]); points = ([]); boxes = ([]) })

c12-0 : fit c12 (counted c12) (feature 0) (((p (pos 3) (pos 1) ∷ p (pos 4) (pos 1) ∷ p (pos 4) (pos 3) ∷ p (pos 3) (pos 3) ∷ p (pos 2) (pos 2) ∷ p (pos 2) (pos 1) ∷ p (pos 3) (pos 1) ∷ []) ∷ []) ∷ []) ≡ true
c12-0 = refl

c12-1 : fit c12 (counted c12) (both (feature 0) (feature 1)) (((p (pos 2) (pos 2) ∷ p (pos 2) (pos 1) ∷ p (pos 3) (pos 1) ∷ p (pos 4) (pos 3) ∷ p (pos 3) (pos 3) ∷ p (pos 2) (pos 2) ∷ []) ∷ []) ∷ []) ≡ true
c12-1 = refl

c12-2 : fit c12 (counted c12) (less (feature 0) (feature 1)) (((p (pos 3) (pos 1) ∷ p (pos 4) (pos 1) ∷ p (pos 4) (pos 3) ∷ p (pos 3) (pos 1) ∷ []) ∷ []) ∷ []) ≡ true
c12-2 = refl

c12-3 : fit c12 (counted c12) (any_of (feature 0 ∷ feature 1 ∷ [])) (((p (pos 3) (pos 1) ∷ p (pos 4) (pos 1) ∷ p (pos 4) (pos 3) ∷ p (pos 3) (pos 3) ∷ p (pos 1) (pos 4) ∷ p (pos 2) (pos 2) ∷ p (pos 2) (pos 1) ∷ p (pos 3) (pos 1) ∷ []) ∷ []) ∷ ((p (pos 4) (pos 3) ∷ p (pos 5) (pos 2) ∷ p (pos 4) (pos 5) ∷ p (pos 4) (pos 3) ∷ []) ∷ []) ∷ []) ≡ true
c12-3 = refl

abbrev c13 : Plane
c13 = plane_of (record { polygons = ((((p (pos 4) (pos 4) ∷ p (pos 5) (pos 5) ∷ p (pos 0) (pos 4) ∷ p (pos 0) (pos 4) ∷ p (pos 4) (pos 4) ∷ []) ∷ []) ∷ []) ∷ (((p (pos 5) (pos 0) ∷ p (pos 4) (pos 4) ∷ p (pos 0) (pos 0) ∷ p (pos 5) (pos 0) ∷ []) ∷ []) ∷ []) ∷ []); lines = ([]); points = ([]); boxes = ([]) })

c13-0 : fit c13 (counted c13) (feature 0) (((p (pos 4) (pos 4) ∷ p (pos 5) (pos 5) ∷ p (pos 0) (pos 4) ∷ p (pos 4) (pos 4) ∷ []) ∷ []) ∷ []) ≡ true
c13-0 = refl

c13-2 : fit c13 (counted c13) (less (feature 0) (feature 1)) (((p (pos 4) (pos 4) ∷ p (pos 5) (pos 5) ∷ p (pos 0) (pos 4) ∷ p (pos 4) (pos 4) ∷ []) ∷ []) ∷ []) ≡ true
c13-2 = refl

c13-3 : fit c13 (counted c13) (any_of (feature 0 ∷ feature 1 ∷ [])) (((p (pos 4) (pos 4) ∷ p (pos 5) (pos 5) ∷ p (pos 0) (pos 4) ∷ p (pos 4) (pos 4) ∷ []) ∷ []) ∷ ((p (pos 4) (pos 4) ∷ p (pos 0) (pos 0) ∷ p (pos 5) (pos 0) ∷ p (pos 4) (pos 4) ∷ []) ∷ []) ∷ []) ≡ true
c13-3 = refl

abbrev c14 : Plane
c14 = plane_of (record { polygons = ((((p (pos 4) (pos 4) ∷ p (pos 3) (pos 0) ∷ p (pos 1) (pos 4) ∷ p (pos 1) (pos 1) ∷ p (pos 4) (negsuc 0) ∷ p (pos 4) (pos 4) ∷ []) ∷ []) ∷ []) ∷ (((p (pos 2) (pos 1) ∷ p (pos 2) (pos 4) ∷ p (pos 2) (pos 2) ∷ p (negsuc 0) (pos 1) ∷ p (pos 0) (pos 1) ∷ p (pos 2) (pos 1) ∷ []) ∷ []) ∷ []) ∷ []); lines = ([]); points = ([]); boxes = ([]) })

c14-0 : fit c14 (counted c14) (feature 0) (((p (pos 3) (pos 0) ∷ p (pos 4) (negsuc 0) ∷ p (pos 4) (pos 4) ∷ p (pos 3) (pos 0) ∷ []) ∷ []) ∷ ((p (pos 2) (pos 1) ∷ p (pos 2) (pos 2) ∷ p (pos 1) (pos 4) ∷ p (pos 1) (pos 2) ∷ p (pos 1) (pos 1) ∷ p (pos 2) (pos 1) ∷ []) ∷ []) ∷ []) ≡ true
c14-0 = refl

c14-1 : fit c14 (counted c14) (both (feature 0) (feature 1)) (((p (pos 2) (pos 1) ∷ p (pos 2) (pos 2) ∷ p (pos 1) (pos 2) ∷ p (pos 1) (pos 1) ∷ p (pos 2) (pos 1) ∷ []) ∷ []) ∷ []) ≡ true
c14-1 = refl

c14-2 : fit c14 (counted c14) (less (feature 0) (feature 1)) (((p (pos 3) (pos 0) ∷ p (pos 4) (negsuc 0) ∷ p (pos 4) (pos 4) ∷ p (pos 3) (pos 0) ∷ []) ∷ []) ∷ ((p (pos 2) (pos 2) ∷ p (pos 1) (pos 4) ∷ p (pos 1) (pos 2) ∷ p (pos 2) (pos 2) ∷ []) ∷ []) ∷ []) ≡ true
c14-2 = refl

c14-3 : fit c14 (counted c14) (any_of (feature 0 ∷ feature 1 ∷ [])) (((p (pos 3) (pos 0) ∷ p (pos 4) (negsuc 0) ∷ p (pos 4) (pos 4) ∷ p (pos 3) (pos 0) ∷ []) ∷ []) ∷ ((p (pos 2) (pos 1) ∷ p (pos 2) (pos 2) ∷ p (pos 1) (pos 4) ∷ p (pos 1) (pos 2) ∷ p (pos 0) (pos 1) ∷ p (pos 1) (pos 1) ∷ p (pos 2) (pos 1) ∷ []) ∷ []) ∷ []) ≡ true
c14-3 = refl

abbrev c15 : Plane
c15 = plane_of (record { polygons = ((((p (pos 3) (pos 4) ∷ p (negsuc 0) (pos 0) ∷ p (pos 0) (negsuc 0) ∷ p (pos 3) (pos 4) ∷ []) ∷ []) ∷ []) ∷ (((p (pos 4) (pos 0) ∷ p (pos 4) (pos 1) ∷ p (pos 0) (negsuc 0) ∷ p (pos 4) (pos 0) ∷ []) ∷ []) ∷ []) ∷ []); lines = ([]); points = ([]); boxes = ([]) })

c15-0 : fit c15 (counted c15) (feature 0) (((p (pos 0) (negsuc 0) ∷ p (pos 3) (pos 4) ∷ p (negsuc 0) (pos 0) ∷ p (pos 0) (negsuc 0) ∷ []) ∷ []) ∷ []) ≡ true
c15-0 = refl

c15-2 : fit c15 (counted c15) (less (feature 0) (feature 1)) (((p (pos 0) (negsuc 0) ∷ p (pos 3) (pos 4) ∷ p (negsuc 0) (pos 0) ∷ p (pos 0) (negsuc 0) ∷ []) ∷ []) ∷ []) ≡ true
c15-2 = refl

c15-3 : fit c15 (counted c15) (any_of (feature 0 ∷ feature 1 ∷ [])) (((p (pos 0) (negsuc 0) ∷ p (pos 3) (pos 4) ∷ p (negsuc 0) (pos 0) ∷ p (pos 0) (negsuc 0) ∷ []) ∷ []) ∷ ((p (pos 0) (negsuc 0) ∷ p (pos 4) (pos 0) ∷ p (pos 4) (pos 1) ∷ p (pos 0) (negsuc 0) ∷ []) ∷ []) ∷ []) ≡ true
c15-3 = refl

abbrev c16 : Plane
c16 = plane_of (record { polygons = ((((p (pos 2) (pos 1) ∷ p (pos 2) (pos 0) ∷ p (pos 2) (negsuc 0) ∷ p (pos 2) (pos 5) ∷ p (pos 2) (pos 1) ∷ []) ∷ []) ∷ []) ∷ (((p (pos 4) (pos 1) ∷ p (pos 0) (pos 4) ∷ p (pos 0) (negsuc 0) ∷ p (pos 1) (pos 1) ∷ p (pos 5) (pos 1) ∷ p (pos 4) (pos 1) ∷ []) ∷ []) ∷ []) ∷ []); lines = ([]); points = ([]); boxes = ([]) })

c16-3 : fit c16 (counted c16) (any_of (feature 0 ∷ feature 1 ∷ [])) (((p (pos 4) (pos 1) ∷ p (pos 2) (pos 3) ∷ p (pos 0) (pos 4) ∷ p (pos 0) (negsuc 0) ∷ p (pos 1) (pos 1) ∷ p (pos 2) (pos 1) ∷ p (pos 4) (pos 1) ∷ []) ∷ []) ∷ []) ≡ true
c16-3 = refl

abbrev c17 : Plane
c17 = plane_of (record { polygons = ((((p (pos 3) (pos 4) ∷ p (pos 3) (pos 1) ∷ p (pos 3) (pos 0) ∷ p (negsuc 0) (pos 2) ∷ p (pos 3) (pos 4) ∷ []) ∷ []) ∷ []) ∷ (((p (pos 5) (pos 3) ∷ p (pos 4) (pos 5) ∷ p (pos 1) (negsuc 0) ∷ p (pos 1) (pos 2) ∷ p (pos 5) (pos 3) ∷ []) ∷ []) ∷ []) ∷ []); lines = ([]); points = ([]); boxes = ([]) })

c17-0 : fit c17 (counted c17) (feature 0) (((p (pos 3) (pos 3) ∷ p (pos 3) (pos 4) ∷ p (negsuc 0) (pos 2) ∷ p (pos 1) (pos 1) ∷ p (pos 2) (pos 1) ∷ p (pos 3) (pos 0) ∷ p (pos 3) (pos 1) ∷ p (pos 3) (pos 2) ∷ p (pos 3) (pos 3) ∷ []) ∷ []) ∷ []) ≡ true
c17-0 = refl

c17-1 : fit c17 (counted c17) (both (feature 0) (feature 1)) (((p (pos 1) (pos 1) ∷ p (pos 2) (pos 1) ∷ p (pos 3) (pos 2) ∷ p (pos 1) (pos 2) ∷ p (pos 1) (pos 1) ∷ []) ∷ []) ∷ []) ≡ true
c17-1 = refl

c17-2 : fit c17 (counted c17) (less (feature 0) (feature 1)) (((p (pos 3) (pos 3) ∷ p (pos 3) (pos 4) ∷ p (negsuc 0) (pos 2) ∷ p (pos 1) (pos 1) ∷ p (pos 1) (pos 2) ∷ p (pos 3) (pos 2) ∷ p (pos 3) (pos 3) ∷ []) ∷ []) ∷ ((p (pos 2) (pos 1) ∷ p (pos 3) (pos 0) ∷ p (pos 3) (pos 1) ∷ p (pos 3) (pos 2) ∷ p (pos 2) (pos 1) ∷ []) ∷ []) ∷ []) ≡ true
c17-2 = refl

c17-3 : fit c17 (counted c17) (any_of (feature 0 ∷ feature 1 ∷ [])) (((p (pos 3) (pos 2) ∷ p (pos 3) (pos 3) ∷ p (pos 5) (pos 3) ∷ p (pos 4) (pos 5) ∷ p (pos 3) (pos 4) ∷ p (negsuc 0) (pos 2) ∷ p (pos 1) (pos 1) ∷ p (pos 1) (negsuc 0) ∷ p (pos 2) (pos 1) ∷ p (pos 3) (pos 0) ∷ p (pos 3) (pos 1) ∷ p (pos 3) (pos 2) ∷ []) ∷ []) ∷ []) ≡ true
c17-3 = refl

abbrev c18 : Plane
c18 = plane_of (record { polygons = ((((p (pos 4) (pos 2) ∷ p (pos 1) (pos 0) ∷ p (pos 0) (pos 2) ∷ p (pos 4) (pos 2) ∷ []) ∷ []) ∷ []) ∷ (((p (pos 2) (pos 0) ∷ p (pos 2) (pos 1) ∷ p (pos 2) (pos 1) ∷ p (pos 0) (pos 1) ∷ p (pos 4) (negsuc 0) ∷ p (pos 2) (pos 0) ∷ []) ∷ []) ∷ []) ∷ []); lines = ([]); points = ([]); boxes = ([]) })

c18-0 : fit c18 (counted c18) (feature 0) (((p (pos 2) (pos 1) ∷ p (pos 4) (pos 2) ∷ p (pos 0) (pos 2) ∷ p (pos 0) (pos 1) ∷ p (pos 1) (pos 1) ∷ p (pos 1) (pos 0) ∷ p (pos 2) (pos 0) ∷ p (pos 2) (pos 1) ∷ []) ∷ []) ∷ []) ≡ true
c18-0 = refl

c18-1 : fit c18 (counted c18) (both (feature 0) (feature 1)) (((p (pos 2) (pos 0) ∷ p (pos 2) (pos 1) ∷ p (pos 1) (pos 1) ∷ p (pos 1) (pos 0) ∷ p (pos 2) (pos 0) ∷ []) ∷ []) ∷ []) ≡ true
c18-1 = refl

c18-2 : fit c18 (counted c18) (less (feature 0) (feature 1)) (((p (pos 2) (pos 1) ∷ p (pos 4) (pos 2) ∷ p (pos 0) (pos 2) ∷ p (pos 0) (pos 1) ∷ p (pos 1) (pos 1) ∷ p (pos 2) (pos 1) ∷ []) ∷ []) ∷ []) ≡ true
c18-2 = refl

c18-3 : fit c18 (counted c18) (any_of (feature 0 ∷ feature 1 ∷ [])) (((p (pos 2) (pos 1) ∷ p (pos 4) (pos 2) ∷ p (pos 0) (pos 2) ∷ p (pos 0) (pos 1) ∷ p (pos 1) (pos 1) ∷ p (pos 1) (pos 0) ∷ p (pos 2) (pos 0) ∷ p (pos 2) (pos 1) ∷ []) ∷ []) ∷ []) ≡ true
c18-3 = refl

abbrev c19 : Plane
c19 = plane_of (record { polygons = ((((p (pos 0) (pos 2) ∷ p (pos 5) (pos 4) ∷ p (pos 3) (pos 1) ∷ p (pos 0) (pos 2) ∷ []) ∷ []) ∷ []) ∷ (((p (pos 3) (pos 0) ∷ p (pos 3) (pos 5) ∷ p (pos 4) (pos 3) ∷ p (pos 0) (pos 4) ∷ p (pos 3) (negsuc 0) ∷ p (pos 3) (pos 0) ∷ []) ∷ []) ∷ []) ∷ []); lines = ([]); points = ([]); boxes = ([]) })

c19-0 : fit c19 (counted c19) (feature 0) (((p (pos 3) (pos 3) ∷ p (pos 1) (pos 2) ∷ p (pos 2) (pos 2) ∷ p (pos 3) (pos 1) ∷ p (pos 4) (pos 3) ∷ p (pos 3) (pos 3) ∷ []) ∷ []) ∷ ((p (pos 4) (pos 4) ∷ p (pos 4) (pos 3) ∷ p (pos 5) (pos 4) ∷ p (pos 4) (pos 4) ∷ []) ∷ []) ∷ []) ≡ true
c19-0 = refl

c19-1 : fit c19 (counted c19) (both (feature 0) (feature 1)) (((p (pos 3) (pos 3) ∷ p (pos 1) (pos 2) ∷ p (pos 2) (pos 2) ∷ p (pos 3) (pos 1) ∷ p (pos 3) (pos 3) ∷ []) ∷ []) ∷ []) ≡ true
c19-1 = refl

c19-2 : fit c19 (counted c19) (less (feature 0) (feature 1)) (((p (pos 4) (pos 3) ∷ p (pos 3) (pos 3) ∷ p (pos 3) (pos 1) ∷ p (pos 4) (pos 3) ∷ []) ∷ []) ∷ ((p (pos 4) (pos 4) ∷ p (pos 4) (pos 3) ∷ p (pos 5) (pos 4) ∷ p (pos 4) (pos 4) ∷ []) ∷ []) ∷ []) ≡ true
c19-2 = refl

c19-3 : fit c19 (counted c19) (any_of (feature 0 ∷ feature 1 ∷ [])) (((p (pos 4) (pos 3) ∷ p (pos 5) (pos 4) ∷ p (pos 4) (pos 4) ∷ p (pos 3) (pos 5) ∷ p (pos 3) (pos 3) ∷ p (pos 0) (pos 4) ∷ p (pos 1) (pos 2) ∷ p (pos 2) (pos 2) ∷ p (pos 3) (pos 0) ∷ p (pos 3) (pos 1) ∷ p (pos 4) (pos 3) ∷ []) ∷ []) ∷ []) ≡ true
c19-3 = refl
