use Rattle.std.proofs.Common.{◌≡◌, ◌*◌, ◌≤◌, take, unsigned_abs}
use Rattle.face_walk.specs.Areas.{area_along}
use Rattle.face_walk.specs.Areas.{most_triangle}
use Rattle.face_walk.proofs.areas.area_along.Given as goal

abbrev pub invariant-loop-i : goal.invariant-loop-i
invariant-loop-i l = (unsigned_abs l.area ≤ l.i * most_triangle) × (l.i ≤ 4294967296) × (l.area ≡ area_along (take l.i l.points))
