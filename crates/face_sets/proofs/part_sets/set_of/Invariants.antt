use Rattle.std.proofs.Common.{◌≡◌, ℕ, List, map, filter, take, get_or, All, Contains}
use Rattle.face_sets.specs.declared.part_sets.PartFace.{PartFace}
use Rattle.face_sets.specs.Parts.{IsFaceOf}
use Rattle.face_sets.proofs.PartLemmas.{has_part}
use Rattle.face_sets.proofs.part_sets.set_of.Given as goal

abbrev pub invariant-loop-i : goal.invariant-loop-i
invariant-loop-i l =
    ((faces : List ℕ) → All (IsFaceOf faces) l.numbered → All (Contains faces) l.faces.items)
    × ((n : ℕ) → ((d : PartFace) → (get_or l.numbered l.first d).part ≡ n) → l.faces.items ≡ map (λ (p : PartFace). p.face) (filter (has_part n) (take l.i l.numbered)))
