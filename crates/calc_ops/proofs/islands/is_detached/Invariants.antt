use Rattle.std.proofs.Common.{◌≡◌, ℕ, List, true, take}
use Rattle.face_sets.specs.Owners.{AreOwners}
use Rattle.calc_ops.specs.Islands.{is_detached}
use Rattle.calc_ops.proofs.islands.is_detached.Given as goal

abbrev pub invariant-loop-arc : goal.invariant-loop-arc
invariant-loop-arc l = (sets : List (List ℕ)) → AreOwners sets l.f.count l.owners → is_detached l.f sets l.n (take l.arc-index l.around) ≡ true
