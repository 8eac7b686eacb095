use Rattle.std.proofs.Common.{All}
use Rattle.face_sets.specs.Sets.{IsSetOf}
use Rattle.calc_ops.specs.Islands.{AreWithoutIslands}
use Rattle.calc_ops.proofs.islands.drop_islands.Given as goal

abbrev pub invariant-loop-n : goal.invariant-loop-n
invariant-loop-n l = record {
  so_far : AreWithoutIslands l.t l.f l.old l.least_area l.least_links l.n l.sets;
  inner : All (IsSetOf l.f) l.sets;
}
