use Rattle.std.proofs.Common.{◌≡◌, ℕ, ◌<◌, length, get_or, All}
use Rattle.face_sets.specs.declared.part_sets.PartFace.{PartFace}
use Rattle.face_sets.specs.Parts.{IsFaceOf}
use Rattle.face_sets.specs.Joined.{IsRanked}
use Rattle.face_sets.proofs.part_sets.numbered_faces.Given as goal

abbrev pub invariant-loop-i : goal.invariant-loop-i
invariant-loop-i l =
    All (IsFaceOf l.faces) l.numbered.items
    × (length l.numbered.items ≡ l.i)
    × ((k : ℕ) (d : PartFace) → k < l.i → (get_or l.numbered.items k d).face ≡ get_or l.faces k 0)
    × All (IsRanked l.faces l.parts.joining l.parts.numbers.items) l.numbered.items
