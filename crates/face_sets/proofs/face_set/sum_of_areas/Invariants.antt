use Rattle.std.proofs.Common.{◌≡◌, take}
use Rattle.face_sets.specs.Sets.{area_of}
use Rattle.face_sets.proofs.face_set.sum_of_areas.Given as goal

abbrev pub invariant-loop-face : goal.invariant-loop-face
invariant-loop-face l = l.sum ≡ area_of l.f.areas (take l.face-index l.faces)
