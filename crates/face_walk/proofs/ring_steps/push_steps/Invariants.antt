use Rattle.std.proofs.Common.{◌≡◌, ◌++◌, map, take}
use Rattle.face_walk.specs.RingSteps.{step_along}
use Rattle.face_walk.proofs.ring_steps.push_steps.Given as goal

abbrev pub invariant-loop-a : goal.invariant-loop-a
invariant-loop-a l = l.steps.items ≡ l.initial.steps.items ++ map (step_along l.item) (take l.a-index l.a-items)
