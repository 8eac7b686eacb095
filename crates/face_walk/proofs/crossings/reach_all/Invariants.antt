use Rattle.std.proofs.Common.{◌≡◌, ℕ, ◌<◌, List, Some}
use Rattle.std.specs.Prelude.{slice_get}
use Rattle.plane_model.specs.Points.{Path}
use Rattle.face_walk.specs.Places.{IsBuiltOf}
use Rattle.face_walk.specs.Crossings.{AreMarked, IsDone, outer_of}
use Rattle.face_walk.specs.declared.crossings.Crossing.{Crossing}
use Rattle.face_walk.proofs.crossings.reach_all.Given as goal

abbrev pub invariant-loop-k : goal.invariant-loop-k
invariant-loop-k l = record {
  marked : AreMarked l.f l.crossings.items l.reached;
  outer_done : (arcs : List Path) → IsBuiltOf arcs l.f → IsDone l.f l.crossings.items (outer_of l.f);
  each_done : (arcs : List Path) → IsBuiltOf arcs l.f → (j : ℕ) (c : Crossing) → j < l.k → slice_get l.crossings.items j ≡ Some c → IsDone l.f l.crossings.items c.into;
}
