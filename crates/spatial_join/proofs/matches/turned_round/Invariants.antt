use Rattle.std.proofs.Common.{map, take}
use Rattle.face_sets.specs.Owners.{AreOwners}
use Rattle.spatial_join.proofs.matches.turned_round.Given as goal

abbrev pub invariant-loop-n : goal.invariant-loop-n
invariant-loop-n l = AreOwners (take l.n l.lists) l.count (map (λ list. list.items) l.places.items)
