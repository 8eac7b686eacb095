-- The transform of a topology, after TopoJSON 1.0, section 2.1.2: quantized numbers and their places on the grid.
use Rattle.std.specs.Prelude.{ℕ, ◌+◌, ◌*◌, ◌^◌, ℤ, pos, ◌+ℤ◌, ◌-ℤ◌, ◌*ℤ◌}
use Rattle.grid_base.specs.Sizes.{most_step}
use Rattle.numerals.specs.Numeral.{rounded}

-- n stands for n * scale + offset; both in units of 10^-28
pub record AxisUnits : Type 0 where
  pub scale : ℤ
  pub offset : ℤ

-- the place of a quantized number on the grid, with `places` decimal places, halves upwards
abbrev pub axis_place : AxisUnits → ℕ → ℤ → ℤ
axis_place a places n = rounded (n *ℤ a.scale +ℤ a.offset) (pos places -ℤ pos 28)

-- ## In two parts

-- the least unit that a grid can have is this number of units of 10^-28, and a number of a transform has at most as
-- many of these least units
abbrev pub part : ℕ
part = 10 ^ 19

-- the greatest that a quantized number times a part, and a part more, can be
abbrev pub most_line : ℕ
most_line = most_step * part + part
