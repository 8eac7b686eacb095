-- The segments of a drawing, and each first point of a path as a segment of no length, so that the vertices are where they stop.
use Rattle.std.specs.Prelude.{ℕ, Bool, ◌||◌, List, [], ◌∷◌, ◌++◌, map, if◌then◌else◌, Option, Some, None, slice_get}
use Rattle.std.specs.List.{flat_map}
use Rattle.std.specs.Option.{option_to_list}
use Rattle.plane_model.specs.Points.{GridPoint, Path, Segment, same_point}
use Rattle.plane_model.specs.Pixel.{crossing_pixel}
use Rattle.plane_model.specs.Drawing.{Drawing, Polygon, point_segment}

-- the steps from a point to the first of a path, and on
abbrev pub spots_after : GridPoint → Path → List Segment
spots_after from [] = []
spots_after from (p ∷ rest) = record { start = from; stop = p } ∷ spots_after p rest

abbrev pub path_spots : Path → List Segment
path_spots [] = []
path_spots (p ∷ rest) = spots_after p (p ∷ rest)

abbrev pub rings_spots : List Path → List Segment
rings_spots rings = flat_map path_spots rings

abbrev pub feature_spots : List Polygon → List Segment
feature_spots polygons = flat_map rings_spots polygons

abbrev pub points_spots : List GridPoint → List Segment
points_spots points = map point_segment points

abbrev pub spots_of : Drawing → List Segment
spots_of d = flat_map feature_spots d.polygons ++ flat_map rings_spots d.lines ++ flat_map points_spots d.points ++ flat_map path_spots d.boxes

-- ---- crossings of edges that are near each other, besides those at common ends, which are vertices

-- p is an end of s
abbrev pub is_end : Segment → GridPoint → Bool
is_end s p = same_point p s.start || same_point p s.stop

abbrev pub share_end : Segment → Segment → Bool
share_end s t = is_end t s.start || is_end t s.stop

-- the crossing of two edges, if they are there and have no end in common
abbrev pub crossing_between : Option Segment → Option Segment → Option GridPoint
crossing_between None t = None
crossing_between (Some s) None = None
crossing_between (Some s) (Some t) = if share_end s t then None else crossing_pixel s t

abbrev pub crossing_at : List Segment → ℕ → ℕ → Option GridPoint
crossing_at edges i j = crossing_between (slice_get edges i) (slice_get edges j)

-- the crossings of edge i with those of these numbers
abbrev pub crossings_with : List Segment → ℕ → List ℕ → List GridPoint
crossings_with edges i near = flat_map (λ j. option_to_list (crossing_at edges i j)) near

-- the crossings of each of these edges with those after it
abbrev pub crossings_among : List Segment → List ℕ → List GridPoint
crossings_among edges [] = []
crossings_among edges (i ∷ rest) = crossings_with edges i rest ++ crossings_among edges rest
