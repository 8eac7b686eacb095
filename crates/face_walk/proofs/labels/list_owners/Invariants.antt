use Rattle.std.proofs.Common.{take}
use Rattle.face_walk.specs.Holders.{AreOwnersOf}
use Rattle.face_walk.proofs.labels.list_owners.Given as goal

abbrev pub invariant-loop-i : goal.invariant-loop-i
invariant-loop-i l = AreOwnersOf l.owners (take l.i-index l.items) l.features.items
