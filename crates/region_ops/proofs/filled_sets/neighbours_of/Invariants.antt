use Rattle.std.proofs.Common.{◌≡◌, List, ℕ, take}
use Rattle.plane_model.specs.Points.{Path}
use Rattle.face_walk.specs.Places.{IsBuiltOf}
use Rattle.region_ops.specs.Filled.{AreSoleOwners, neighbours_of}
use Rattle.region_ops.proofs.filled_sets.neighbours_of.Given as goal

abbrev pub invariant-loop-face : goal.invariant-loop-face
invariant-loop-face l = (arcs : List Path) → IsBuiltOf arcs l.f → (cleaned : List (List ℕ)) → AreSoleOwners cleaned l.f.count l.firsts → l.numbers.items ≡ neighbours_of arcs l.f cleaned (take l.face-index l.gap)
