use Rattle.std.proofs.Common.{take}
use Rattle.spatial_join.specs.Matches.{AreMatchedPoints}
use Rattle.spatial_join.proofs.matches.match_points.Given as goal

abbrev pub invariant-loop-list : goal.invariant-loop-list
invariant-loop-list l = AreMatchedPoints l.t l.f (take l.list-index l.list-items) l.sets l.matches
