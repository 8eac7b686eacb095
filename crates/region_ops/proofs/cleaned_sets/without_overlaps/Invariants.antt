use Rattle.std.proofs.Common.{All}
use Rattle.face_sets.specs.Sets.{IsSetOf}
use Rattle.region_ops.specs.Cleaned.{AreWon}
use Rattle.region_ops.proofs.cleaned_sets.without_overlaps.Given as goal

abbrev pub invariant-loop-n : goal.invariant-loop-n
invariant-loop-n l = AreWon l.firsts l.old l.n l.sets × All (IsSetOf l.f) l.sets
