-- Inner faces put in order are a set.
use Rattle.std.proofs.Common.{ℕ, List, All}
use Rattle.std.specs.Prelude.{nat_lt}
use Rattle.lists.specs.Lists.{ascending}
use Rattle.face_walk.specs.Places.{FaceTable}
use Rattle.face_sets.specs.Sets.{IsInnerFace, IsSetOf}
use Rattle.face_sets.proofs.SetLemmas.{All-ascending}

pub set_of_inner : (t : FaceTable) (faces : List ℕ) → All (IsInnerFace t) faces → IsSetOf t (ascending nat_lt faces)
set_of_inner t faces h = All-ascending (IsInnerFace t) faces h
