use Rattle.std.proofs.Common.{◌≡◌, [], replicate}
use Rattle.run_plane.proofs.plane.empty_sets.Given as goal

abbrev pub invariant-loop-number : goal.invariant-loop-number
invariant-loop-number l = l.sets.items ≡ replicate l._number []
