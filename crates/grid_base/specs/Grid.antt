-- The bounds of the grid, and rectangles: words for whole numbers of the plane.
use Rattle.std.specs.Prelude.{ℤ, pos, neg_ℤ, int_le, ◌≤ℤ◌, Bool, ◌&&◌, if◌then◌else◌, Option, Some, None}
pub use Rattle.grid_bounds.specs.Bounds.{limit, most_places}
use Rattle.plane_model.specs.Points.{GridPoint}
use Rattle.plane_model.specs.Hot.{IsWithinBounds}

-- the least and the greatest number of the grid
abbrev pub least : ℤ
least = neg_ℤ (pos limit)

abbrev pub greatest : ℤ
greatest = pos limit

abbrev pub is_grid_number : ℤ → Bool
is_grid_number v = int_le least v && int_le v greatest

abbrev pub is_on_grid : GridPoint → Bool
is_on_grid p = is_grid_number p.x && is_grid_number p.y

-- the same, as a fact
abbrev pub IsOnGrid : GridPoint → Type 0
IsOnGrid p = IsWithinBounds least greatest p

-- the point with these numbers, where it lies on the grid
abbrev pub grid_point : ℤ → ℤ → Option GridPoint
grid_point x y = let p : GridPoint = record { x = x; y = y } in if is_on_grid p then Some p else None

-- a rectangle, as its lower left and its upper right corner
pub record Corners : Type 0 where
  pub low : GridPoint
  pub high : GridPoint

-- p is neither right of q nor above it
pub record IsAtMost (p q : GridPoint) : Type 0 where
  pub across : p.x ≤ℤ q.x
  pub upward : p.y ≤ℤ q.y

-- the rectangle with these corners, where there is one
abbrev pub corners_of : GridPoint → GridPoint → Option Corners
corners_of low high = if int_le low.x high.x && int_le low.y high.y then Some (record { low = low; high = high }) else None
