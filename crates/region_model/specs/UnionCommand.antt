-- The union of several layers: a region for each choice of one feature or none of each layer, in parts.
use Rattle.std.specs.Prelude.{ℕ, not, ◌&&◌, List, [], ◌∷◌, ◌++◌, map, zip, filter, filter_map, take, length, slice_index_or, Option, Some, None, is_some}
use Rattle.std.specs.List.{flat_map, list_any, range_with_len}
use Rattle.region_model.specs.Region.{Region, any_of, less}
use Rattle.region_model.specs.Answers.{Plane, Answers, is_empty}
use Rattle.region_model.specs.PolygonCommands.{all_of, parts_of}

-- for each layer, in order, the number of a feature, or none
abbrev pub Choice : Type 0
Choice = List (Option ℕ)

-- one layer's choices: each number, and none after them
abbrev pub choices_in : List Region → Choice
choices_in rs = map Some (range_with_len 0 (length rs)) ++ None ∷ []

-- all choices, in lexicographic order
abbrev pub choices : List (List Region) → List Choice
choices [] = [] ∷ []
choices (rs ∷ rest) = flat_map (λ (o : Option ℕ). map (λ (c : Choice). o ∷ c) (choices rest)) (choices_in rs)

-- a feature's region less those of the features before it
abbrev pub less_earlier : List Region → ℕ → Region
less_earlier rs n = less (slice_index_or rs n (any_of [])) (any_of (take n rs))

abbrev pub chosen_in : Option ℕ × List Region → Option Region
chosen_in (None, rs) = None
chosen_in (Some n, rs) = Some (less_earlier rs n)

abbrev pub left_out : Option ℕ × List Region → List Region
left_out (None, rs) = rs
left_out (Some n, rs) = []

-- what all chosen features have, and no feature of a layer without one
abbrev pub union_region : List (List Region) → Choice → Region
union_region layers c = less (all_of (filter_map chosen_in (zip c layers))) (any_of (flat_map left_out (zip c layers)))

-- the choices with a feature, each with each part of its region
abbrev pub united : Plane → Answers → List (List Region) → List (Choice × Region)
united P A layers = flat_map (λ (c : Choice). map (λ (r : Region). (c, r)) (parts_of A (union_region layers c)))
    (filter (λ (c : Choice). list_any is_some c && not (is_empty P A (union_region layers c))) (choices layers))
