use Rattle.std.proofs.Common.{take, map, ◌∷◌, []}
use Rattle.plane_model.specs.Points.{Path}
use Rattle.face_walk.specs.RingSteps.{AreStepsFrom}
use Rattle.face_walk.proofs.ring_steps.box_steps.Given as goal

abbrev pub invariant-loop-b : goal.invariant-loop-b
invariant-loop-b l = AreStepsFrom l.t 0 (map (λ (path : Path). path ∷ []) (take l.b l.s.boxes)) l.steps.items
