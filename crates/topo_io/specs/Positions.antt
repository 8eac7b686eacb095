-- Positions of a topology, after TopoJSON 1.0, sections 2.1.2 and 2.1.3. With a transform they are whole numbers; in an
-- arc each but the first is the difference from the one before.
use Rattle.std.specs.Prelude.{ℕ, ◌^◌, Bool, nat_lt, nat_le, ◌&&◌, ℤ, pos, ◌+ℤ◌, unsigned_abs, List, codes, Option, Some, None, Result, Ok, Err, if◌then◌else◌}
use Rattle.json_values.specs.Json.{JsonValue, number, array, object, item, no_items}
use Rattle.json_values.specs.Lists.{fields_list, value_named}
use Rattle.numerals.specs.Numeral.{checked_grid}
use Rattle.numerals.specs.Units.{units_of_text}
use Rattle.plane_model.specs.Points.{GridPoint}
use Rattle.grid_base.specs.Sizes.{most_step}
use Rattle.geojson_io.specs.Reads.{on_ok}
use Rattle.geojson_io.specs.Positions.{numbered_point, place}
use Rattle.geojson_io.specs.declared.fault.ShapeWhy.{ShapeWhy}
use Rattle.geojson_io.specs.declared.fault.ShapeWhy.TheVariants as geo
use Rattle.topo_io.specs.Transform.{AxisUnits, axis_place}
use Rattle.topo_io.specs.declared.fault.TopoWhy.{TopoWhy}
use Rattle.topo_io.specs.declared.fault.TopoWhy.TheVariants.{BadPosition, TransformRange, Range, NotTopology}
use Rattle.topo_io.specs.declared.frame.Transform.{Transform}
use Rattle.topo_io.specs.declared.frame.Frame.{Frame}
use Rattle.topo_io.specs.declared.reading.positions.Sums.{Sums}

-- ## Without a transform: as in GeoJSON

abbrev pub plain_result : Result GridPoint ShapeWhy → Result GridPoint TopoWhy
plain_result (Ok p) = Ok p
plain_result (Err geo.Range) = Err Range
plain_result (Err why) = Err BadPosition

abbrev pub plain : ℕ → JsonValue → Result GridPoint TopoWhy
plain places j = plain_result (place places j)

-- ## With a transform

abbrev pub both : Option ℤ → Option ℤ → Option (ℤ × ℤ)
both (Some x) (Some y) = Some (x, y)
both None _ = None
both (Some x) None = None

-- two or more items, of which the first two are whole numbers
abbrev pub whole_pair : JsonValue → Option (ℤ × ℤ)
whole_pair (array (item (number x) (item (number y) rest))) = both (units_of_text 0 x) (units_of_text 0 y)
whole_pair _ = None

-- sums stay within twice the limit of the grid, either way
abbrev pub is_sum : ℤ → Bool
is_sum n = nat_le (unsigned_abs n) most_step

abbrev pub sums_with : Sums → ℤ × ℤ → Result Sums TopoWhy
sums_with before d =
    if is_sum (before.x +ℤ d.0) && is_sum (before.y +ℤ d.1) then Ok (record { x = before.x +ℤ d.0; y = before.y +ℤ d.1 }) else Err TransformRange

abbrev pub sums_from : Sums → Option (ℤ × ℤ) → Result Sums TopoWhy
sums_from before None = Err BadPosition
sums_from before (Some d) = sums_with before d

-- the sums up to a position
abbrev pub sums_after : JsonValue → Sums → Result Sums TopoWhy
sums_after j before = sums_from before (whole_pair j)

-- the point of quantized numbers, where the grid has it
abbrev pub quantized_point : Transform → ℕ → ℤ → ℤ → Option GridPoint
quantized_point t places x y = numbered_point (checked_grid (axis_place t.x places x)) (checked_grid (axis_place t.y places y))

abbrev pub or_range : Option GridPoint → Result GridPoint TopoWhy
or_range (Some p) = Ok p
or_range None = Err Range

-- ## A position

abbrev pub with_sums : Sums → GridPoint → Result (GridPoint × Sums) TopoWhy
with_sums sums p = Ok (p, sums)

abbrev pub at_sums : Transform → ℕ → Sums → Result (GridPoint × Sums) TopoWhy
at_sums t places sums = on_ok (or_range (quantized_point t places sums.x sums.y)) (with_sums sums)

abbrev pub position_by : Option Transform → ℕ → JsonValue → Sums → Result (GridPoint × Sums) TopoWhy
position_by None places j before = on_ok (plain places j) (with_sums before)
position_by (Some t) places j before = on_ok (sums_after j before) (at_sums t places)

-- the point of a position after such sums, and the sums up to it
abbrev pub position_after : Frame → JsonValue → Sums → Result (GridPoint × Sums) TopoWhy
position_after frame j before = position_by frame.transform frame.places j before

abbrev pub no_sums : Sums
no_sums = record { x = pos 0; y = pos 0 }

-- a position by itself
abbrev pub lone_position : Frame → JsonValue → Result GridPoint TopoWhy
lone_position frame j = on_ok (position_after frame j no_sums) (λ (p : GridPoint × Sums). Ok p.0)

-- ## The transform itself

-- a list of just two numbers
abbrev pub number_pair : Option JsonValue → Option (List ℕ × List ℕ)
number_pair (Some (array (item (number x) (item (number y) no_items)))) = Some (x, y)
number_pair _ = None

-- a multiple of 10^-28 below 10^9 either way
abbrev pub below_end : ℤ → Bool
below_end n = nat_lt (unsigned_abs n) (10 ^ 37)

abbrev pub axis_with : ℤ → ℤ → Option AxisUnits
axis_with scale offset = if below_end scale && below_end offset then Some (record { scale = scale; offset = offset }) else None

abbrev pub axis_by : Option ℤ → Option ℤ → Option AxisUnits
axis_by (Some scale) (Some offset) = axis_with scale offset
axis_by None _ = None
axis_by (Some scale) None = None

abbrev pub axis_of : List ℕ → List ℕ → Option AxisUnits
axis_of scale offset = axis_by (units_of_text 28 scale) (units_of_text 28 offset)

abbrev pub transform_with : Option AxisUnits → Option AxisUnits → Result (Option Transform) TopoWhy
transform_with (Some x) (Some y) = Ok (Some (record { x = x; y = y }))
transform_with None _ = Err TransformRange
transform_with (Some x) None = Err TransformRange

abbrev pub transform_by : Option (List ℕ × List ℕ) → Option (List ℕ × List ℕ) → Result (Option Transform) TopoWhy
transform_by (Some scale) (Some translate) = transform_with (axis_of scale.0 translate.0) (axis_of scale.1 translate.1)
transform_by None _ = Err NotTopology
transform_by (Some scale) None = Err NotTopology

-- the transform, which may be absent
abbrev pub transform_of : Option JsonValue → Result (Option Transform) TopoWhy
transform_of None = Ok None
transform_of (Some (object fs)) = transform_by (number_pair (value_named (codes "scale") (fields_list fs))) (number_pair (value_named (codes "translate") (fields_list fs)))
transform_of (Some _) = Err NotTopology
