use Rattle.std.proofs.Common.{ℕ, List, All, take}
use Rattle.face_sets.specs.Parts.{AreGroups, IsFaceOf, IsPieceOf}
use Rattle.face_sets.proofs.part_sets.sets_of.Given as goal

abbrev pub invariant-loop-i : goal.invariant-loop-i
invariant-loop-i l = ((faces : List ℕ) → All (IsFaceOf faces) l.numbered → All (IsPieceOf faces) l.sets) × AreGroups l.numbered (take l.i l.numbered) l.sets
