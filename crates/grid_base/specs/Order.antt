-- The order of points.
use Rattle.std.specs.Ordering.{ordering_then, int_cmp}
use Rattle.std.specs.declared.cmp.Ordering.{Ordering}
use Rattle.plane_model.specs.Points.{GridPoint}

-- points are ordered by x, then by y
abbrev pub point_cmp : GridPoint → GridPoint → Ordering
point_cmp p q = ordering_then (int_cmp p.x q.x) (int_cmp p.y q.y)
