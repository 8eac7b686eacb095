-- Which regions some points are inside of: a join by place.
use Rattle.std.specs.Prelude.{ℕ, Bool, List}
use Rattle.std.specs.List.{list_any}
use Rattle.lists.specs.Lists.{numbers_where}
use Rattle.plane_model.specs.Points.{GridPoint}
use Rattle.region_model.specs.Region.{Region}
use Rattle.region_model.specs.Answers.{Answers}

-- some of the points are inside the region
abbrev pub has_inside : Answers → Region → List GridPoint → Bool
has_inside A r points = list_any (A.inside r) points

-- the numbers of the regions that some of the points are inside of
abbrev pub around_points : Answers → List Region → List GridPoint → List ℕ
around_points A rs points = numbers_where (λ (r : Region). has_inside A r points) rs

-- the numbers of the lists of points of which some are inside the region
abbrev pub points_inside : Answers → List (List GridPoint) → Region → List ℕ
points_inside A lists r = numbers_where (has_inside A r) lists
