use Rattle.std.proofs.Common.{◌≡◌, ℕ, ◌+◌, ◌*◌, List, length}
use Rattle.face_walk.specs.Places.{areas_of_faces}
use Rattle.face_walk.specs.Sides.{AreSplit}
use Rattle.face_walk.proofs.faces.areas_of.Given as goal

abbrev pub invariant-loop-f : goal.invariant-loop-f
invariant-loop-f l = (length l.areas.items ≡ l.f) × ((places : List ℕ) → AreSplit places l.count l.arcs l.starts → length places ≡ 2 * length l.t + 1 → l.areas.items ≡ areas_of_faces l.t places l.f)
