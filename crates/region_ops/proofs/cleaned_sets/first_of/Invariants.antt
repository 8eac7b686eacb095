use Rattle.std.proofs.Common.{take}
use Rattle.region_ops.specs.Cleaned.{IsFirst}
use Rattle.region_ops.proofs.cleaned_sets.first_of.Given as goal

abbrev pub invariant-loop-n : goal.invariant-loop-n
invariant-loop-n l = IsFirst l.rule l.areas (take l.n-index l.numbers) l.first
