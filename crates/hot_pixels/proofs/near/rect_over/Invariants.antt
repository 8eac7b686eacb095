use Rattle.hot_pixels.specs.Near.{HoldsBetween}
use Rattle.hot_pixels.proofs.near.rect_over.Given as goal

abbrev pub invariant-loop-k : goal.invariant-loop-k
invariant-loop-k l = HoldsBetween l.rect l.points l.start l.k
