use Rattle.std.proofs.Common.{◌≡◌, ◌∙◌, sym, ap, subst, ℕ, List, ◌++◌, get_or}
use Rattle.std.proofs.lemmas.List.{get_or_default}
use Rattle.face_sets.specs.Joined.{AreParts}
use Rattle.face_groups.specs.Pieces.{pieces_of}
use Rattle.face_groups.proofs.pieces.push_pieces.Goals as goal

pub returns : goal.returns
returns c =
    let set = c.args.set.now in
    let face = c.index-faces-0.result in
    let here : face ≡ get_or set 0 0 = c.index-faces-0.is ∙ ap (λ (xs : List ℕ). get_or xs 0 face) c.faces.ensures.all ∙ get_or_default set 0 face 0 c.requires.some in
    let made = c.into_vec.result.items in
    record {
      exact = record {
        parts = made;
        are = subst (AreParts c.args.f.now set) (sym c.into_vec.ensures.all) c.in_ok-parts.ensures.exact;
        pieces = c.in_ok-push_parts.ensures.exact ∙ ap (λ (k : ℕ). c.args.pieces.now.items ++ pieces_of k made) here;
      };
    }
