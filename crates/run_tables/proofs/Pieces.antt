-- The pieces of a layer, one after another.
use Rattle.std.proofs.Common.{◌≡◌, ℕ, ◌+◌, ◌<◌, List, [], ◌∷◌, ◌++◌, length, get_or, take, ap, sym, subst, ◌∙◌, arith}
use Rattle.std.specs.List.{AllZip, enumerate_from}
use Rattle.std.proofs.lemmas.List.{length-take-le, take_more}
use Rattle.table_rows.specs.declared.split.SplitItem.{SplitItem}
use Rattle.run_plane.proofs.Growth.{zipped_on}
use Rattle.run_plane.specs.declared.layer.Layer.{Layer}
use Rattle.run_tables.specs.Pieces.{IsPiece}

-- one element more has the next number
enumerate_on : {A : Type 0} (n : ℕ) (xs : List A) (x : A) → enumerate_from n (xs ++ x ∷ []) ≡ enumerate_from n xs ++ (n + length xs, x) ∷ []
enumerate_on {A} n [] x = ap (λ (m : ℕ). (m, x) ∷ []) (let e : n ≡ n + 0 = omega arith in e)
enumerate_on {A} n (y ∷ ys) x =
    ap (λ (ps : List (ℕ × A)). (n, y) ∷ ps) (enumerate_on (n + 1) ys x
    ∙ ap (λ (m : ℕ). enumerate_from (n + 1) ys ++ (m, x) ∷ []) (let e : (n + 1) + length ys ≡ n + length (y ∷ ys) = omega arith in e))

pub pieces_more : (layer : Layer) (items : List SplitItem) (i : ℕ) (item : SplitItem) (pieces : List Layer) (piece : Layer) → i < length items → item ≡ get_or items i item →
    AllZip (IsPiece layer) (enumerate_from 1 (take i items)) pieces → IsPiece layer (i + 1, item) piece → AllZip (IsPiece layer) (enumerate_from 1 (take (i + 1) items)) (pieces ++ piece ∷ [])
pieces_more layer items i item pieces piece there is h p =
    let front : List SplitItem = take i items in
    let more : take (i + 1) items ≡ front ++ item ∷ [] = take_more items i item there ∙ ap (λ (z : SplitItem). front ++ z ∷ []) (sym is) in
    let count : 1 + length front ≡ i + 1 = omega (arith, length-take-le i items (omega (arith, there))) in
    let numbered : enumerate_from 1 (take (i + 1) items) ≡ enumerate_from 1 front ++ (i + 1, item) ∷ [] =
    ap (enumerate_from 1) more ∙ (enumerate_on 1 front item ∙ ap (λ (m : ℕ). enumerate_from 1 front ++ (m, item) ∷ []) count) in
    subst (λ (ns : List (ℕ × SplitItem)). AllZip (IsPiece layer) ns (pieces ++ piece ∷ [])) (sym numbered)
    (zipped_on (IsPiece layer) (enumerate_from 1 front) pieces (i + 1, item) piece h p)
