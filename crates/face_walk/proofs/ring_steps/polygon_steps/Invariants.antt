use Rattle.std.proofs.Common.{◌≡◌, take}
use Rattle.lists.specs.Lists.{joined_up}
use Rattle.face_walk.specs.RingSteps.{AreStepsFrom, owners_from}
use Rattle.face_walk.proofs.ring_steps.polygon_steps.Given as goal

abbrev pub invariant-loop-f : goal.invariant-loop-f
invariant-loop-f l = record {
  owners : l.all.owners.items ≡ owners_from 0 (take l.f l.s.polygons);
  steps : AreStepsFrom l.t 0 (joined_up (take l.f l.s.polygons)) l.all.steps.items;
}
