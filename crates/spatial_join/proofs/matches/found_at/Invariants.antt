use Rattle.std.proofs.Common.{take}
use Rattle.spatial_join.specs.Matches.{AreFoundAlong}
use Rattle.spatial_join.proofs.matches.found_at.Given as goal

abbrev pub invariant-loop-p : goal.invariant-loop-p
invariant-loop-p l = AreFoundAlong l.t l.f l.owners (take l.p-index l.points) l.found.items
