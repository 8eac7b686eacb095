use Rattle.std.proofs.Common.{◌≡◌, take}
use Rattle.face_walk.specs.Areas.{area_within}
use Rattle.face_walk.proofs.areas.area_of_face.Given as goal

abbrev pub invariant-loop-a : goal.invariant-loop-a
invariant-loop-a l = l.area ≡ area_within l.t (take l.a-index l.arcs)
