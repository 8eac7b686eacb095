use Rattle.std.proofs.Common.{◌≡◌, ◌<◌, All, filter, length, map, take}
use Rattle.line_ops.specs.declared.sides.SidedArc.{SidedArc}
use Rattle.line_ops.specs.Sided.{has_both}
use Rattle.line_ops.proofs.sides.inner_arcs.Given as goal

abbrev pub invariant-loop-s : goal.invariant-loop-s
invariant-loop-s l = (l.arcs ≡ map (λ (s : SidedArc). s.arc) (filter has_both (take l.s-index l.s-items))) × All (λ a. a < length l.t) l.arcs
