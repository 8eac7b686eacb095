-- Items for the pieces of one set after another.
use Rattle.std.proofs.Common.{◌≡◌, sym, ap, ◌∙◌, subst, arith, ℕ, ◌+◌, List, [], ◌∷◌, ◌++◌, length, get_or, inl, inr, append-nil}
use Rattle.std.specs.List.{flat_map, enumerate_from}
use Rattle.std.proofs.lemmas.Bool.{cases_lt}
use Rattle.std.proofs.lemmas.Grind.{flat_map-append}
use Rattle.std.proofs.lemmas.List.{length_push, get_or_append_left, get_or_push}
use Rattle.face_walk.specs.Places.{FaceTable}
use Rattle.region_ops.specs.declared.item_lists.PartItem.{PartItem}
use Rattle.region_ops.specs.Exploded.{ArePieces, items_of, IsPushed, AreExploded}

pub enumerate_push : {A : Type 0} (k n : ℕ) (xs : List A) (x : A) → n ≡ k + length xs → enumerate_from k (xs ++ x ∷ []) ≡ enumerate_from k xs ++ (n, x) ∷ []
enumerate_push k n [] x e = (let f : k ≡ n = omega arith in ap (λ (m : ℕ). (m, x) ∷ []) f)
enumerate_push k n (y ∷ ys) x e = ap (λ (zs : List (ℕ × _)). (k, y) ∷ zs) (enumerate_push (k + 1) n ys x (omega arith))

abbrev items_of_set : ℕ × List (List ℕ) → List PartItem
items_of_set f = items_of f.0 f.1

pub exploded_more : (faces : FaceTable) (sets : List (List ℕ)) (n : ℕ) (old new : List PartItem) → AreExploded faces sets n old → IsPushed faces n (get_or sets n []) old new → AreExploded faces sets (n + 1) new
exploded_more faces sets n old new h p =
    let e = h.each in
    let pushed = length_push h.pieces p.pieces in
    record {
      pieces = h.pieces ++ p.pieces ∷ [];
      each = omega arith;
      are = λ k l. elim (cases_lt k n) [
        | inl less ↦ subst (λ (ps : List (List ℕ)). ArePieces faces (get_or sets k []) ps) (sym (get_or_append_left h.pieces (p.pieces ∷ []) [] k (omega arith))) (h.are k less)
        | inr more ↦
            (let same : n ≡ k = omega arith in
            subst (λ (m : ℕ). ArePieces faces (get_or sets m []) (get_or (h.pieces ++ p.pieces ∷ []) m [])) same
            (subst (λ (ps : List (List ℕ)). ArePieces faces (get_or sets n []) ps) (sym (get_or_push h.pieces p.pieces [] n e)) p.are))
      ];
      listed = p.items ∙ ap (λ (is : List PartItem). is ++ items_of n p.pieces) h.listed
          ∙ ap (λ (is : List PartItem). flat_map items_of_set (enumerate_from 0 h.pieces) ++ is) (sym (append-nil (items_of n p.pieces)))
          ∙ sym (ap (flat_map items_of_set) (enumerate_push 0 n h.pieces p.pieces (omega arith)) ∙ flat_map-append items_of_set (enumerate_from 0 h.pieces) ((n, p.pieces) ∷ []));
    }
