use Rattle.std.proofs.Common.{subst, ℕ, List, All, Contains, IfOk}
use Rattle.std.proofs.lemmas.List.Elements.{All-weaker, All-contains}
use Rattle.std.proofs.lemmas.Result.{IfOk-weaker}
use Rattle.face_walk.specs.Places.{FaceTable}
use Rattle.face_sets.specs.Parts.{IsDivided, IsPieceOf}
use Rattle.face_sets.specs.Joined.{AreParts}
use Rattle.face_sets.specs.Sets.{IsInnerFace, IsSetOf}
use Rattle.face_sets.proofs.part_sets.parts.Goals as goal

-- what holds of each face of a set holds of each face of its pieces
pieces_inner : (faces : FaceTable) (set : List ℕ) → IsSetOf faces set → (piece : List ℕ) → IsPieceOf set piece → IsSetOf faces piece
pieces_inner faces set inner piece h = All-weaker (Contains set) (IsInnerFace faces) (λ k there. All-contains (IsInnerFace faces) set k inner there) piece h.faces

pub returns : goal.returns
returns c =
    let is = c.faces.ensures.all in
    let pieces : IfOk c.parts_of.result (All (IsPieceOf c.args.set.now)) = subst (λ (set : List ℕ). IfOk c.parts_of.result (All (IsPieceOf set))) is c.parts_of.ensures.of_them in
    record {
      exact = subst (λ (set : List ℕ). IfOk c.parts_of.result (AreParts c.args.f.now set)) is c.parts_of.ensures.exact;
      divided = subst (λ (set : List ℕ). IfOk c.parts_of.result (IsDivided set)) is c.parts_of.ensures.divided;
      of_the_set = pieces;
      inner = IfOk-weaker c.parts_of.result (All (IsPieceOf c.args.set.now)) (All (IsSetOf c.args.f.now))
          (λ sets h. All-weaker (IsPieceOf c.args.set.now) (IsSetOf c.args.f.now) (pieces_inner c.args.f.now c.args.set.now c.requires.faces) sets h)
          pieces;
    }
