use Rattle.std.proofs.Common.{◌≡◌, map, take}
use Rattle.region_ops.specs.Cleaned.{area_of}
use Rattle.region_ops.proofs.cleaned_sets.areas_of.Given as goal

abbrev pub invariant-loop-set : goal.invariant-loop-set
invariant-loop-set l = l.areas.items ≡ map (area_of l.f.areas) (take l.set-index l.sets)
