use Rattle.std.proofs.Common.{List, take}
use Rattle.plane_model.specs.Points.{Segment}
use Rattle.arc_table.specs.StepCodes.{links_numbered, steps_of, AreCodes, AreLinkNumbers}
use Rattle.arc_table.specs.Steps.{AreStepsAlong}
use Rattle.arc_table.proofs.merging.Merging.push_downs.Given as goal

abbrev pub invariant-loop-k : goal.invariant-loop-k
invariant-loop-k l = record {
  there : (links : List Segment) → AreLinkNumbers links l.falling → AreCodes links l.fn.self.codes.items → AreCodes links l.self.codes.items;
  along : (links ups : List Segment) → AreStepsAlong ups (links_numbered links (take l.from l.falling)) (steps_of links l.fn.self.codes.items) → AreStepsAlong ups (links_numbered links (take l.k l.falling)) (steps_of links l.self.codes.items);
}
