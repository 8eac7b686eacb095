-- Positions, lines and rings, after RFC 7946, sections 3.1.1, 3.1.4 and 3.1.6, on the grid. What follows the second
-- number of a position is dropped.
use Rattle.std.specs.Prelude.{ℕ, ◌-◌, Bool, true, ◌==◌, nat_lt, ℤ, List, [], ◌∷◌, length, Option, Some, None, Result, Ok, Err, if◌then◌else◌}
use Rattle.lists.specs.Lists.{last_of}
use Rattle.json_values.specs.Json.{JsonValue, number, array, item}
use Rattle.json_values.specs.Lists.{items_list}
use Rattle.numerals.specs.Numeral.{grid_of_text}
use Rattle.plane_model.specs.Points.{GridPoint, Path, same_point}
use Rattle.plane_model.specs.Drawing.{Polygon}
use Rattle.grid_base.specs.Grid.{grid_point}
use Rattle.geojson_io.specs.Reads.{Reads, on_ok, gives, fails, each, ◌>>=◌}
use Rattle.geojson_io.specs.declared.fault.ShapeWhy.{ShapeWhy}
use Rattle.geojson_io.specs.declared.fault.ShapeWhy.TheVariants.{BadPosition, Range, TooManyPositions, LineShort, RingShort, RingOpen}

-- the point of two numerals, where the grid has it
abbrev pub numbered_point : Option ℤ → Option ℤ → Option GridPoint
numbered_point (Some x) (Some y) = grid_point x y
numbered_point None _ = None
numbered_point (Some x) None = None

abbrev pub or_range : Option GridPoint → Result GridPoint ShapeWhy
or_range (Some p) = Ok p
or_range None = Err Range

-- two or more items, of which the first two are numbers
abbrev pub place : ℕ → JsonValue → Result GridPoint ShapeWhy
place places (array (item (number x) (item (number y) rest))) = or_range (numbered_point (grid_of_text places x) (grid_of_text places y))
place places _ = Err BadPosition

-- each position takes one of the room
abbrev pub position : ℕ → JsonValue → Reads ShapeWhy GridPoint
position places j = λ room. if room == 0 then Err TooManyPositions else on_ok (place places j) (λ (p : GridPoint). Ok (p, room - 1))

-- the items of a list
abbrev pub items_of : JsonValue → Reads ShapeWhy (List JsonValue)
items_of (array items) = gives (items_list items)
items_of _ = fails BadPosition

abbrev pub positions : ℕ → JsonValue → Reads ShapeWhy Path
positions places j = items_of j >>= each (position places)

-- a line has two or more positions
abbrev pub line_of : Path → Reads ShapeWhy Path
line_of path = if nat_lt (length path) 2 then fails LineShort else gives path

abbrev pub line : ℕ → JsonValue → Reads ShapeWhy Path
line places j = positions places j >>= line_of

abbrev pub is_closed : Path → Bool
is_closed [] = true
is_closed (p ∷ rest) = same_point p (last_of p rest)

-- a ring has four or more positions, and its ends are equal
abbrev pub ring_of : Path → Reads ShapeWhy Path
ring_of path = if nat_lt (length path) 4 then fails RingShort else (if is_closed path then gives path else fails RingOpen)

abbrev pub ring : ℕ → JsonValue → Reads ShapeWhy Path
ring places j = positions places j >>= ring_of

abbrev pub rings : ℕ → JsonValue → Reads ShapeWhy Polygon
rings places j = items_of j >>= each (ring places)
