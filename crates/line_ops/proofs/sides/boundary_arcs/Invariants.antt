use Rattle.std.proofs.Common.{◌≡◌, ◌<◌, All, length, map, take}
use Rattle.line_ops.specs.declared.sides.SidedArc.{SidedArc}
use Rattle.line_ops.proofs.sides.boundary_arcs.Given as goal

abbrev pub invariant-loop-s : goal.invariant-loop-s
invariant-loop-s l = (l.arcs ≡ map (λ (s : SidedArc). s.arc) (take l.s-index l.s-items)) × All (λ a. a < length l.t) l.arcs
