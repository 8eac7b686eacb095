use Rattle.std.proofs.Common.{◌≡◌, take}
use Rattle.lists.specs.Lists.{joined_up}
use Rattle.face_sets.proofs.set_list.faces_of_all.Given as goal

abbrev pub invariant-loop-set : goal.invariant-loop-set
invariant-loop-set l = l.faces.items ≡ joined_up (take l.set-index l.sets)
