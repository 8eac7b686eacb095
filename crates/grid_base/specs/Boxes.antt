-- The least rectangle that holds two points.
use Rattle.std.specs.Prelude.{ℤ, int_le, if◌then◌else◌}
use Rattle.plane_model.specs.Points.{GridPoint, Segment}
use Rattle.grid_base.specs.Grid.{Corners}

abbrev pub lesser : ℤ → ℤ → ℤ
lesser a b = if int_le a b then a else b

abbrev pub greater : ℤ → ℤ → ℤ
greater a b = if int_le a b then b else a

-- its corners
abbrev pub lower_left : GridPoint → GridPoint → GridPoint
lower_left p q = record { x = lesser p.x q.x; y = lesser p.y q.y }

abbrev pub upper_right : GridPoint → GridPoint → GridPoint
upper_right p q = record { x = greater p.x q.x; y = greater p.y q.y }

-- the rectangle of the ends of a segment
abbrev pub box_of : Segment → Corners
box_of s = record { low = lower_left s.start s.stop; high = upper_right s.start s.stop }
