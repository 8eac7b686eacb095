use Rattle.std.proofs.Common.{◌≡◌, false, take}
use Rattle.line_ops.specs.Points.{has_some_left}
use Rattle.line_ops.proofs.points.has_left_of.Given as goal

abbrev pub invariant-loop-a : goal.invariant-loop-a
invariant-loop-a l = has_some_left l.f l.set (take l.a-index l.arcs) ≡ false
