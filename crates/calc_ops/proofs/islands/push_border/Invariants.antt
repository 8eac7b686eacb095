use Rattle.std.proofs.Common.{◌≡◌, ◌++◌, filter, take, All}
use Rattle.face_walk.specs.Places.{HasArc}
use Rattle.face_sets.specs.Boundary.{is_outward}
use Rattle.calc_ops.proofs.islands.push_border.Given as goal

abbrev pub invariant-loop-arc : goal.invariant-loop-arc
invariant-loop-arc l = record {
  so_far : l.around.items ≡ l.fn.around.items ++ filter (is_outward l.f.places l.piece) (take l.arc-index l.round);
  there : All (HasArc l.f) l.around.items;
}
