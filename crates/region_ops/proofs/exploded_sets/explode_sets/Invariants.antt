use Rattle.std.proofs.Common.{All, length}
use Rattle.region_ops.specs.Exploded.{AreExploded}
use Rattle.region_ops.specs.Items.{IsPart}
use Rattle.region_ops.proofs.exploded_sets.explode_sets.Given as goal

abbrev pub invariant-loop-n : goal.invariant-loop-n
invariant-loop-n l = All (IsPart l.f (length l.old)) l.items × AreExploded l.f l.old l.n l.items
