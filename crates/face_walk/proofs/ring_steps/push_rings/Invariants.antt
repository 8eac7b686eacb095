use Rattle.std.proofs.Common.{take}
use Rattle.face_walk.specs.RingSteps.{AreAdded}
use Rattle.face_walk.proofs.ring_steps.push_rings.Given as goal

abbrev pub invariant-loop-ring : goal.invariant-loop-ring
invariant-loop-ring l = AreAdded l.t l.item (take l.ring-index l.rings) l.initial.steps.items l.steps.items
