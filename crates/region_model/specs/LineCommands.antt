-- What the commands on lines and points take from the sides of links.
use Rattle.std.specs.Prelude.{ℕ, Bool, true, false, not, ◌&&◌, ◌||◌, nat_eq, nat_lt, List, [], ◌∷◌, map, filter, slice_index_or, if◌then◌else◌}
use Rattle.lists.specs.Lists.{ascending, numbers_where, same_list}
use Rattle.plane_model.specs.Points.{GridPoint, Segment, Path, is_before, reversed}
use Rattle.plane_model.specs.Drawing.{steps, steps_of_paths}
use Rattle.plane_model.specs.Arcs.{arc_number}
use Rattle.region_model.specs.Region.{Region}
use Rattle.region_model.specs.Answers.{Plane, Answers, is_nil}

-- ---- sides of steps

-- the side on the left, or right, of a step along a link belongs to the region
abbrev pub on_left : Answers → Region → Segment → Bool
on_left A r s = if is_before s.start s.stop then A.left r s else A.right r (reversed s)

abbrev pub on_right : Answers → Region → Segment → Bool
on_right A r s = on_left A r (reversed s)

-- a link is inside a source where at least one of its sides belongs to it
abbrev pub is_inside : Answers → Region → Segment → Bool
is_inside A source s = on_left A source s || on_right A source s

-- ---- clip and erase

-- a step from p to q before some runs, of which the first begins at q where the step after it passes too
abbrev pub put_step : Bool → GridPoint → GridPoint → List Path → List Path
put_step true p q [] = (p ∷ q ∷ []) ∷ []
put_step true p q (run ∷ runs) = (p ∷ run) ∷ runs
put_step false p q runs = (p ∷ q ∷ []) ∷ runs

abbrev pub first_passes : (Segment → Bool) → Path → Bool
first_passes test [] = false
first_passes test (p ∷ []) = false
first_passes test (p ∷ q ∷ rest) = test (record { start = p; stop = q })

-- the steps of a path that pass, as maximal runs
abbrev pub runs_where : (Segment → Bool) → Path → List Path
runs_where test [] = []
runs_where test (p ∷ []) = []
runs_where test (p ∷ q ∷ rest) =
    let runs : List Path = runs_where test (q ∷ rest) in
    if test (record { start = p; stop = q }) then put_step (first_passes test (q ∷ rest)) p q runs else runs

abbrev pub clipped_path : Answers → Region → Path → List Path
clipped_path A source path = runs_where (is_inside A source) path

abbrev pub erased_path : Answers → Region → Path → List Path
erased_path A source path = runs_where (λ (s : Segment). not (is_inside A source s)) path

abbrev pub clipped_points : Answers → Region → List GridPoint → List GridPoint
clipped_points A source points = filter (A.inside source) points

abbrev pub erased_points : Answers → Region → List GridPoint → List GridPoint
erased_points A source points = filter (λ (p : GridPoint). not (A.inside source p)) points

-- ---- dissolve

abbrev pub arc_points : Plane → ℕ → Path
arc_points P n = slice_index_or P.arcs n []

-- the numbers of the arcs that the paths step along, ascending
abbrev pub arcs_used : Plane → List Path → List ℕ
arcs_used P paths = ascending nat_lt (map (arc_number P.arcs) (steps_of_paths paths))

-- each of these arcs once, in its direction, in order of number
abbrev pub dissolved_paths : Plane → List Path → List Path
dissolved_paths P paths = map (arc_points P) (arcs_used P paths)

-- ---- innerlines and lines

-- the side of an arc is that of its first step
abbrev pub side_of_first : (Segment → Bool) → Path → Bool
side_of_first side arc = elim (steps arc) [ [] ↦ false | s ∷ rest ↦ side s ]

-- the numbers of the regions that have the left, or right, side of an arc
abbrev pub holders_left : Answers → List Region → Path → List ℕ
holders_left A rs arc = numbers_where (λ (r : Region). side_of_first (on_left A r) arc) rs

abbrev pub holders_right : Answers → List Region → Path → List ℕ
holders_right A rs arc = numbers_where (λ (r : Region). side_of_first (on_right A r) arc) rs

-- an arc with the lists of features at its sides
pub record SidedArc : Type 0 where
  pub points : Path
  pub left : List ℕ
  pub right : List ℕ

abbrev pub sided_arcs : Plane → Answers → List Region → List SidedArc
sided_arcs P A rs = map (λ (arc : Path). record { points = arc; left = holders_left A rs arc; right = holders_right A rs arc }) P.arcs

-- the two lists differ
abbrev pub differs : SidedArc → Bool
differs a = not (same_list nat_eq a.left a.right)

-- and neither is empty
abbrev pub is_inner : SidedArc → Bool
is_inner a = differs a && not (is_nil a.left) && not (is_nil a.right)

abbrev pub outer_and_inner : Plane → Answers → List Region → List SidedArc
outer_and_inner P A rs = filter differs (sided_arcs P A rs)

abbrev pub inner_lines : Plane → Answers → List Region → List Path
inner_lines P A rs = map (λ (a : SidedArc). a.points) (filter is_inner (sided_arcs P A rs))
