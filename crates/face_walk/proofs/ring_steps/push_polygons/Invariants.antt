use Rattle.std.proofs.Common.{◌≡◌, ◌++◌, List, length, map, take}
use Rattle.plane_model.specs.Points.{Path}
use Rattle.plane_model.specs.Drawing.{Polygon}
use Rattle.face_walk.specs.RingSteps.{AreStepsFrom}
use Rattle.face_walk.proofs.ring_steps.push_polygons.Given as goal

abbrev pub invariant-loop-polygon : goal.invariant-loop-polygon
invariant-loop-polygon l = record {
  owners : l.all.owners.items ≡ l.initial.all.owners.items ++ map (λ (p : Polygon). l.feature) (take l.polygon-index l.polygon-items);
  steps : (before : List (List Path)) → length l.initial.all.owners.items ≡ length before → AreStepsFrom l.t 0 before l.initial.all.steps.items → AreStepsFrom l.t 0 (before ++ take l.polygon-index l.polygon-items) l.all.steps.items;
}
