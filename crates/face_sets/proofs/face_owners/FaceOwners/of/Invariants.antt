use Rattle.std.proofs.Common.{map, take}
use Rattle.face_sets.specs.Owners.{AreOwners}
use Rattle.face_sets.proofs.face_owners.FaceOwners.of.Given as goal

abbrev pub invariant-loop-n : goal.invariant-loop-n
invariant-loop-n l = AreOwners (take l.n l.sets) l.f.count (map (λ list. list.items) l.lists.items)
