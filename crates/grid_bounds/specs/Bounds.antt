-- How far the grid goes.
use Rattle.std.specs.Prelude.{ℕ}

-- a number of the grid is at most this, either way
abbrev pub limit : ℕ
limit = 200000000000

-- the greatest number of decimal places that a grid has
abbrev pub most_places : ℕ
most_places = 9
