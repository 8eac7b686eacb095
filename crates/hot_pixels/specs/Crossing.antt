-- The parts of a crossing: shares of the way along two segments, and the point that they give.
use Rattle.std.specs.Prelude.{ℕ, ℤ, pos, ◌-ℤ◌, int_le, Bool, ◌&&◌, if◌then◌else◌, Option, Some, None}
use Rattle.plane_model.specs.Points.{GridPoint, Segment}
use Rattle.plane_model.specs.Pixel.{rounded}
use Rattle.grid_base.specs.Grid.{IsOnGrid}

-- n / w is a share of a whole: from 0 to 1
abbrev pub is_share : ℤ → ℤ → Bool
is_share n w = int_le (pos 0) n && int_le n w

-- the pixel at p / w of the way along s, where p / w and q / w are shares
abbrev pub pixel_by : Segment → ℕ → ℤ → ℤ → Option GridPoint
pixel_by s w p q =
    if is_share p (pos w) && is_share q (pos w)
    then Some (record { x = rounded s.start.x (s.stop.x -ℤ s.start.x) p w; y = rounded s.start.y (s.stop.y -ℤ s.start.y) p w })
    else None

pub record HasGridEnds (s : Segment) : Type 0 where
  pub start : IsOnGrid s.start
  pub stop : IsOnGrid s.stop
