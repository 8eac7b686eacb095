use Rattle.std.proofs.Common.{◌≡◌}
use Rattle.line_ops.specs.Sided.{sided_among}
use Rattle.line_ops.proofs.sides.sided_arcs.Given as goal

abbrev pub invariant-loop-n : goal.invariant-loop-n
invariant-loop-n l = l.arcs ≡ sided_among l.f l.sets l.n
