use Rattle.std.proofs.Common.{◌≡◌, ℕ, List, length}
use Rattle.face_walk.specs.Joins.{joined_by}
use Rattle.face_walk.proofs.RaysBelow.{AreRaysBelow}
use Rattle.face_walk.proofs.rays.join_rays.Given as goal

abbrev pub invariant-loop-i : goal.invariant-loop-i
invariant-loop-i l = record {
  count : length l.joining ≡ length l.initial.joining;
  joined : (rays : List (ℕ × ℕ)) × AreRaysBelow l.search.links.items l.i rays × (l.joining ≡ joined_by rays l.initial.joining);
}
