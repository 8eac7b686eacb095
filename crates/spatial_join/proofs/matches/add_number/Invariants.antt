use Rattle.std.proofs.Common.{map, take}
use Rattle.face_sets.specs.Owners.{IsNumbered}
use Rattle.spatial_join.proofs.matches.add_number.Given as goal

abbrev pub invariant-loop-place : goal.invariant-loop-place
invariant-loop-place l = IsNumbered l.n (take l.place-index l.places) (map (λ list. list.items) l.fn.lists.items) (map (λ list. list.items) l.lists.items)
