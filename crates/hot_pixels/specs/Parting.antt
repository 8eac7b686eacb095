-- Segments on the left of a line: two that are on no common side of it meet in a common end at the most.
use Rattle.std.specs.Prelude.{ℕ, ℤ, pos, int_lt, int_le, Bool, false, ◌&&◌, ◌||◌, List, filter, Option, Some, None, slice_get}
use Rattle.plane_model.specs.Points.{GridPoint, Segment, cross}

-- where a point stands to the line along a segment: above 0 on its left, 0 in it
abbrev pub side : Segment → GridPoint → ℤ
side line p = cross line (record { start = line.start; stop = p })

-- one of two ends is on the left, or both are in the line
abbrev pub are_left : ℤ → ℤ → Bool
are_left start stop = (int_lt (pos 0) start || int_lt (pos 0) stop) || (int_le (pos 0) start && int_le (pos 0) stop)

-- the segment has an end on the left of the line, or lies in it
abbrev pub is_left : Segment → Segment → Bool
is_left line s = are_left (side line s.start) (side line s.stop)

abbrev pub is_left_by : Segment → Option Segment → Bool
is_left_by line None = false
is_left_by line (Some s) = is_left line s

-- of the edges with these numbers, those on the left of the line
abbrev pub left_numbers : Segment → List Segment → List ℕ → List ℕ
left_numbers line edges near = filter (λ i. is_left_by line (slice_get edges i)) near
