-- Arcs, and the paths and rings that are stitched from them, after TopoJSON 1.0, sections 2.1.3 and 2.1.4.
use Rattle.std.specs.Prelude.{ℕ, ◌+◌, ◌-◌, Bool, true, false, nat_lt, ℤ, List, [], ◌∷◌, ◌++◌, filter, length, reverse, Option, Some, None, Result, Ok, Err, if◌then◌else◌}
use Rattle.lists.specs.Lists.{last_of}
use Rattle.json_values.specs.Json.{JsonValue, number, array}
use Rattle.json_values.specs.Lists.{items_list}
use Rattle.numerals.specs.Units.{units_of_text}
use Rattle.plane_model.specs.Points.{Path, same_point}
use Rattle.plane_model.specs.Arcs.{SignedArc, arc_of_index, points_of}
use Rattle.plane_model.specs.Drawing.{Polygon}
use Rattle.geojson_io.specs.Reads.{Reads, on_ok, gives, fails, each, ◌>>=◌}
use Rattle.geojson_io.specs.Positions.{is_closed}
use Rattle.topo_io.specs.Positions.{position_after, no_sums}
use Rattle.topo_io.specs.Reads.{Fault, along, in_place}
use Rattle.topo_io.specs.declared.fault.TopoWhy.{TopoWhy}
use Rattle.topo_io.specs.declared.fault.TopoWhy.TheVariants.{NotTopology, ArcIndex, ArcShort, Unstitched, TooManyPositions, RingOpen}
use Rattle.topo_io.specs.declared.fault.TopoPlace.TheVariants.{Arc}
use Rattle.topo_io.specs.declared.frame.Frame.{Frame}

-- ## Arcs

-- an arc has two or more positions
abbrev pub long_enough : Path → Result Path TopoWhy
long_enough path = if nat_lt (length path) 2 then Err ArcShort else Ok path

abbrev pub arc : Frame → JsonValue → Result Path TopoWhy
arc frame (array items) = on_ok (along (position_after frame) (items_list items) no_sums) long_enough
arc frame _ = Err NotTopology

-- with its number, and the number of the next
abbrev pub before_next : ℕ → Path → Result (Path × ℕ) Fault
before_next n path = Ok (path, n + 1)

abbrev pub numbered_arc : Frame → JsonValue → ℕ → Result (Path × ℕ) Fault
numbered_arc frame j n = on_ok (in_place (Arc n) (arc frame j)) (before_next n)

abbrev pub arcs : Frame → List JsonValue → Result (List Path) Fault
arcs frame js = along (numbered_arc frame) js 0

-- ## Arc indexes

abbrev pub or_no_index : Option SignedArc → Result SignedArc TopoWhy
or_no_index (Some a) = Ok a
or_no_index None = Err ArcIndex

abbrev pub arc_at : ℕ → Option ℤ → Result SignedArc TopoWhy
arc_at count (Some i) = or_no_index (arc_of_index i count)
arc_at count None = Err ArcIndex

-- the arc that an item names, of `count` arcs: a list there is wrongly nested, and anything else that names none is no
-- index
abbrev pub named_arc : ℕ → JsonValue → Result SignedArc TopoWhy
named_arc count (array items) = Err NotTopology
named_arc count (number s) = arc_at count (units_of_text 0 s)
named_arc count _ = Err ArcIndex

-- ## Paths

-- the points of an arc in one of its two directions
abbrev pub turned : Bool → Path → Path
turned is_reversed points = if is_reversed then reverse points else points

-- what an arc adds to a path: its first position is the path's last, and is dropped
abbrev pub fresh_points : Path → Path → Result Path TopoWhy
fresh_points [] points = Ok points
fresh_points (p ∷ path) [] = Ok []
fresh_points (p ∷ path) (q ∷ points) = if same_point (last_of p path) q then Ok points else Err Unstitched

-- a path with more positions, for which there is room
abbrev pub joined : Path → Path → Reads TopoWhy Path
joined path fresh = λ room. if nat_lt room (length fresh) then Err TooManyPositions else Ok (path ++ fresh, room - length fresh)

abbrev pub with_points : Path → Path → Reads TopoWhy Path
with_points path points = λ room. on_ok (fresh_points path points) (λ (fresh : Path). joined path fresh room)

abbrev pub with_arc : List Path → JsonValue → Path → Reads TopoWhy Path
with_arc arcs j path = λ room. on_ok (named_arc (length arcs) j) (λ (a : SignedArc). with_points path (points_of arcs a) room)

-- a path, and after it the arcs that the items name
abbrev pub stitched : List Path → Path → List JsonValue → Reads TopoWhy Path
stitched arcs path [] = gives path
stitched arcs path (j ∷ js) = with_arc arcs j path >>= (λ (longer : Path). stitched arcs longer js)

abbrev pub list_of : JsonValue → Reads TopoWhy (List JsonValue)
list_of (array items) = gives (items_list items)
list_of _ = fails NotTopology

abbrev pub path_of : List Path → JsonValue → Reads TopoWhy Path
path_of arcs j = list_of j >>= stitched arcs []

-- the ends of a ring are equal
abbrev pub closed : Path → Reads TopoWhy Path
closed path = if is_closed path then gives path else fails RingOpen

abbrev pub ring_of : List Path → JsonValue → Reads TopoWhy Path
ring_of arcs j = path_of arcs j >>= closed

-- ## Lists of which what is empty is dropped

abbrev pub has_points : Path → Bool
has_points [] = false
has_points (p ∷ rest) = true

abbrev pub kept : {A : Type 0} → (A → Bool) → List A → Reads TopoWhy (List A)
kept keeps xs = gives (filter keeps xs)

abbrev pub each_kept : {A : Type 0} → (A → Bool) → (JsonValue → Reads TopoWhy A) → List JsonValue → Reads TopoWhy (List A)
each_kept keeps read js = each read js >>= kept keeps

abbrev pub rings_of : List Path → List JsonValue → Reads TopoWhy Polygon
rings_of arcs js = each_kept has_points (ring_of arcs) js
