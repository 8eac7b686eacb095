-- Parts and gaps, computed: the sides of a boundary's steps in classes of joined ones.
use Rattle.std.specs.Prelude.{ℕ, Bool, false, ◌&&◌, nat_eq, nat_lt, List, [], ◌∷◌, map, filter, take, if◌then◌else◌}
use Rattle.std.specs.List.{list_any, flat_map}
use Rattle.lists.specs.Lists.{ascending, place_of}
use Rattle.plane_model.specs.Points.{Segment, Path, is_before, reversed, link_between}
use Rattle.plane_model.specs.Sides.{rings_hold_left, rings_hold_right}
use Rattle.plane_model.specs.Arcs.{arc_number}
use Rattle.model_cases.specs.ClosedRuns.{Side, closed_runs, are_joined}

-- the side on the left, or right, of a step
abbrev pub left_side : Segment → Side
left_side s = if is_before s.start s.stop then rings_hold_left s else rings_hold_right (reversed s)

abbrev pub right_side : Segment → Side
right_side s = left_side (reversed s)

abbrev pub runs_of : List Segment → List Path
runs_of boundary = closed_runs (map link_between boundary)

-- the arcs of the steps of which one side, the left or the right, is joined to this one, ascending
abbrev pub class_arcs : List Path → (Segment → Side) → List Segment → Side → List ℕ
class_arcs arcs side_of boundary side =
    let runs : List Path = runs_of boundary in
    ascending nat_lt (map (arc_number arcs) (filter (λ (s : Segment). are_joined runs (side_of s) side) boundary))

-- a side that no run holds is joined to the points left of all links
abbrev pub is_bounded : List Segment → Side → Bool
is_bounded boundary side = list_any (λ (run : Path). side (run ∷ [])) (runs_of boundary)

-- the least arcs of all parts, and of all gaps, ascending
abbrev pub part_numbers : List Path → List Segment → List ℕ
part_numbers arcs boundary = ascending nat_lt (flat_map (λ (s : Segment). take 1 (class_arcs arcs left_side boundary (left_side s))) boundary)

abbrev pub gap_numbers : List Path → List Segment → List ℕ
gap_numbers arcs boundary =
    ascending nat_lt (flat_map (λ (s : Segment). take 1 (class_arcs arcs right_side boundary (right_side s))) (filter (λ (s : Segment). is_bounded boundary (right_side s)) boundary))

-- the class with these arcs is number j of those with these least arcs
abbrev pub is_number : ℕ → List ℕ → List ℕ → Bool
is_number j leasts [] = false
is_number j leasts (n ∷ ns) = nat_eq j (place_of (nat_eq n) leasts)

-- a side in a region is in its part j
abbrev pub is_in_part : List Path → List Segment → ℕ → Side → Bool
is_in_part arcs boundary j side = is_number j (part_numbers arcs boundary) (class_arcs arcs left_side boundary side)

-- a side outside regions is in their gap j
abbrev pub is_in_gap : List Path → List Segment → ℕ → Side → Bool
is_in_gap arcs boundary j side = is_bounded boundary side && is_number j (gap_numbers arcs boundary) (class_arcs arcs right_side boundary side)
