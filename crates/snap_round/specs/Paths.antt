-- Snapped paths put into the last feature of a drawing.
use Rattle.std.specs.Prelude.{List, [], ◌++◌, All}
use Rattle.plane_model.specs.Points.{GridPoint, Path}
use Rattle.plane_model.specs.Drawing.{Drawing, Polygon}
use Rattle.grid_base.specs.Drawn.{with_last}
use Rattle.snap_round.specs.Joining.{IsHotPath, IsHotRing}

abbrev pub with_rings : Polygon → Drawing → Drawing
with_rings rings d = record d { polygons = with_last (with_last (λ (polygon : Polygon). polygon ++ rings)) d.polygons }

abbrev pub with_polygons : List Polygon → Drawing → Drawing
with_polygons polygons d = record d { polygons = with_last (λ (feature : List Polygon). feature ++ polygons) d.polygons }

abbrev pub with_lines : List Path → Drawing → Drawing
with_lines lines d = record d { lines = with_last (λ (feature : List Path). feature ++ lines) d.lines }

abbrev pub with_points : List GridPoint → Drawing → Drawing
with_points points d = record d { points = with_last (λ (feature : List GridPoint). feature ++ points) d.points }

-- the same paths, and no point
abbrev pub without_points : Drawing → Drawing
without_points d = record d { points = [] }

-- the paths of d are paths, and rings where they have to be, of hot points
pub record HasHotPaths (hot : List GridPoint) (d : Drawing) : Type 0 where
  pub rings : All (All (All (IsHotRing hot))) d.polygons
  pub lines : All (All (IsHotPath hot)) d.lines
  pub boxes : All (IsHotRing hot) d.boxes
