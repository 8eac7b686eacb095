use Rattle.std.proofs.Common.{◌≡◌, ℕ, ◌<◌, List, length, take, All}
use Rattle.plane_model.specs.Points.{Path}
use Rattle.face_walk.specs.Places.{IsBuiltOf}
use Rattle.face_sets.specs.Boundary.{sides_from}
use Rattle.face_sets.specs.Joined.{AreSound, IsJoinedAround}
use Rattle.face_sets.specs.Parts.{IsSide}
use Rattle.face_sets.proofs.joined_faces.joined.Given as goal

abbrev pub invariant-loop-i : goal.invariant-loop-i
invariant-loop-i l = record {
  count : length l.joining ≡ length l.faces;
  sound : (arcs : List Path) → IsBuiltOf arcs l.f → AreSound l.f l.faces l.joining;
  around : (arcs : List Path) → IsBuiltOf arcs l.f → (k : ℕ) → k < l.i → IsJoinedAround l.f l.faces k l.joining;
  sides : (arcs : List Path) → IsBuiltOf arcs l.f → l.sides.items ≡ sides_from l.f.places (length arcs) l.faces 0 (take l.i l.faces);
  there : All (IsSide l.f (length l.faces)) l.sides.items;
}
