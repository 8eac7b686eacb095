-- The paths of a drawing have fewer links than vertices.
use Rattle.std.proofs.Common.{◌≡◌, ◌≤◌, ◌+◌, ◌-◌, sym, ap, ◌∙◌, arith, ℕ, List, [], ◌∷◌, ◌++◌, length, take, Some}
use Rattle.std.specs.Prelude.{sum_by}
use Rattle.std.specs.List.{flat_map, slice_get}
use Rattle.std.proofs.lemmas.List.Sums.{sum_by-cons, sum_by-append, sum_by_more}
use Rattle.std.proofs.lemmas.Option.{get_or_from_slice_get, slice_get_within}
use Rattle.lists.specs.Lists.{joined_up}
use Rattle.plane_model.specs.Points.{Path}
use Rattle.plane_model.specs.Drawing.{Drawing, Polygon, rings_of}
use Rattle.plane_model.specs.Snapped.{link_count}

abbrev links_in : Path → ℕ
links_in path = length path - 1

paths_links : (paths : List Path) → sum_by links_in paths ≤ sum_by length paths
paths_links [] = omega arith
paths_links (path ∷ paths) =
    let a = sum_by-cons links_in path paths in
    let b = sum_by-cons length path paths in
    let c = paths_links paths in
    omega arith

joined_links : (lists : List (List Path)) → sum_by links_in (joined_up lists) ≤ sum_by (sum_by length) lists
joined_links [] = omega arith
joined_links (paths ∷ lists) =
    let a = sum_by-append links_in paths (joined_up lists) in
    let b = sum_by-cons (sum_by length) paths lists in
    let c = paths_links paths in
    let d = joined_links lists in
    omega arith

polygons_links : (features : List (List Polygon)) → sum_by links_in (flat_map rings_of features) ≤ sum_by (sum_by (sum_by length)) features
polygons_links [] = omega arith
polygons_links (feature ∷ features) =
    let a = sum_by-append links_in (rings_of feature) (flat_map rings_of features) in
    let b = sum_by-cons (sum_by (sum_by length)) feature features in
    let c = joined_links feature in
    let d = polygons_links features in
    omega arith

pub no_more_links : (d : Drawing) → link_count d ≤ sum_by (sum_by (sum_by length)) d.polygons + sum_by (sum_by length) d.lines + sum_by length d.boxes
no_more_links d =
    let a = sum_by-append links_in (flat_map rings_of d.polygons ++ joined_up d.lines) d.boxes in
    let b = sum_by-append links_in (flat_map rings_of d.polygons) (joined_up d.lines) in
    let c = polygons_links d.polygons in
    let e = joined_links d.lines in
    let f = paths_links d.boxes in
    omega arith

-- what is counted up to a place, and the item there
pub count_more : {A : Type 0} (f : A → ℕ) (xs : List A) (i : ℕ) (x : A) (count more : ℕ) → slice_get xs i ≡ Some x → count ≡ sum_by f (take i xs) → more ≡ count + f x → more ≡ sum_by f (take (i + 1) xs)
count_more f xs i x count more g c m =
    m ∙ (λ j. c j + f x) ∙ sym (sum_by_more f xs i x (slice_get_within xs i x g) ∙ ap (λ y. sum_by f (take i xs) + f y) (get_or_from_slice_get xs i x x g))
