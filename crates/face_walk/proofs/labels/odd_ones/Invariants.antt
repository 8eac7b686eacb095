use Rattle.std.proofs.Common.{take}
use Rattle.face_walk.specs.Holders.{AreOddOnes}
use Rattle.face_walk.proofs.labels.odd_ones.Given as goal

abbrev pub invariant-loop-n : goal.invariant-loop-n
invariant-loop-n l = AreOddOnes (take l.n-index l.sorted) l.odd.items
