-- How large the numbers are that numbers of the grid make.
use Rattle.std.specs.Prelude.{ℕ, ◌*◌, ◌≤◌, ℤ, unsigned_abs}
use Rattle.grid_base.specs.Grid.{limit}

-- a number of the grid
abbrev pub IsGridNumber : ℤ → Type 0
IsGridNumber v = unsigned_abs v ≤ limit

-- a step from one number of the grid to another
abbrev pub most_step : ℕ
most_step = 2 * limit

abbrev pub IsStep : ℤ → Type 0
IsStep d = unsigned_abs d ≤ most_step

-- a determinant of steps: at most twice the product of two
abbrev pub most_cross : ℕ
most_cross = 2 * (most_step * most_step)

abbrev pub IsCross : ℤ → Type 0
IsCross z = unsigned_abs z ≤ most_cross
