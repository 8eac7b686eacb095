use Rattle.std.proofs.Common.{ℕ, ◌<◌, ◌≤◌}
use Rattle.face_sets.specs.Parts.{HasPart}
use Rattle.face_sets.proofs.part_sets.end_of_part.Given as goal

abbrev pub invariant-loop-i : goal.invariant-loop-i
invariant-loop-i l = (k : ℕ) → l.first ≤ k → k < l.i → HasPart l.numbered k l.part
