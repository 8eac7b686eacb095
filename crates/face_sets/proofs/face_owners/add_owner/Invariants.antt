use Rattle.std.proofs.Common.{map, take}
use Rattle.face_sets.specs.Owners.{IsNumbered}
use Rattle.face_sets.proofs.face_owners.add_owner.Given as goal

abbrev pub invariant-loop-face : goal.invariant-loop-face
invariant-loop-face l = IsNumbered l.n (take l.face-index l.faces) (map (λ list. list.items) l.fn.lists.items) (map (λ list. list.items) l.lists.items)
