use Rattle.std.proofs.Common.{length, map}
use Rattle.region_ops.specs.Filled.{AreTogether}
use Rattle.region_ops.proofs.filled_sets.together.Given as goal

abbrev pub invariant-loop-set : goal.invariant-loop-set
invariant-loop-set l = AreTogether l.yielded (map (λ list. list.items) l.gifts) (length l.yielded) l.sets
