use Rattle.std.proofs.Common.{◌≡◌, filter, take}
use Rattle.region_ops.specs.Cleaned.{is_first}
use Rattle.region_ops.proofs.cleaned_sets.faces_won.Given as goal

abbrev pub invariant-loop-face : goal.invariant-loop-face
invariant-loop-face l = l.won.items ≡ filter (is_first l.firsts l.number) (take l.face-index l.set)
