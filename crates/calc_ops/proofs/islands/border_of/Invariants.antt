use Rattle.std.proofs.Common.{◌≡◌, List, length, take, All}
use Rattle.std.specs.List.{flat_map}
use Rattle.plane_model.specs.Points.{Path}
use Rattle.face_walk.specs.Places.{HasArc, IsBuiltOf}
use Rattle.face_sets.specs.Boundary.{outward_at}
use Rattle.calc_ops.proofs.islands.border_of.Given as goal

abbrev pub invariant-loop-face : goal.invariant-loop-face
invariant-loop-face l = record {
  so_far : (arcs : List Path) → IsBuiltOf arcs l.f → l.around.items ≡ flat_map (outward_at l.f.places (length arcs) l.piece) (take l.face-index l.faces);
  there : All (HasArc l.f) l.around.items;
}
