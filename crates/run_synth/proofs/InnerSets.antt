-- The faces of sets together.
use Rattle.std.proofs.Common.{ℕ, List, [], ◌∷◌, All}
use Rattle.std.proofs.lemmas.List.Elements.{All-append, All-head, All-nil, All-tail}
use Rattle.lists.specs.Lists.{joined_up}
use Rattle.face_walk.specs.Places.{FaceTable}
use Rattle.face_sets.specs.Sets.{IsInnerFace, IsSetOf}
use Rattle.face_sets.proofs.SetLemmas.{All-ascending}
use Rattle.run_synth.specs.Told.{all_faces}

joined : {X : Type 0} (P : X → Type 0) (xss : List (List X)) → All (All P) xss → All P (joined_up xss)
joined P [] h = All-nil P
joined P (xs ∷ xss) h = All-append P xs (joined_up xss) (All-head (All P) xs xss h) (joined P xss (All-tail (All P) xs xss h))

-- where each of the sets is of inner faces, all of them together are
pub together_inner : (faces : FaceTable) (sets : List (List ℕ)) → All (IsSetOf faces) sets → IsSetOf faces (all_faces sets)
together_inner faces sets h = All-ascending (IsInnerFace faces) (joined_up sets) (joined (IsInnerFace faces) sets h)
