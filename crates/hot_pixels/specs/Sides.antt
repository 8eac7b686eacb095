-- How far the sides of a pixel can be from the ends of a segment.
use Rattle.std.specs.Prelude.{ℕ, ◌+◌, ◌*◌, ◌≤◌, ℤ, unsigned_abs}
use Rattle.plane_model.specs.Pixel.{Side}
use Rattle.grid_base.specs.Sizes.{most_step}

-- twice the difference of two numbers of the grid, and one more
abbrev pub most_nearby : ℕ
most_nearby = 2 * most_step + 1

abbrev pub IsNearby : ℤ → Type 0
IsNearby n = unsigned_abs n ≤ most_nearby

pub record HasNearbyEnds (s : Side) : Type 0 where
  pub start : IsNearby s.at_start
  pub stop : IsNearby s.at_stop
