-- How large products of steps and determinants are.
use Rattle.std.specs.Prelude.{ℕ, ◌*◌, ◌≤◌, ℤ, unsigned_abs}
use Rattle.grid_base.specs.Sizes.{most_cross, most_step}

-- a step times a determinant
abbrev pub most_scaled : ℕ
most_scaled = most_step * most_cross

abbrev pub IsScaled : ℤ → Type 0
IsScaled z = unsigned_abs z ≤ most_scaled
