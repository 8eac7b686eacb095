use Rattle.region_ops.specs.Cleaned.{AreFirsts}
use Rattle.region_ops.proofs.cleaned_sets.firsts_of.Given as goal

abbrev pub invariant-loop-n : goal.invariant-loop-n
invariant-loop-n l = AreFirsts l.rule l.areas l.old l.n l.firsts.items
