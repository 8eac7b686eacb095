-- Lists that grow at their end.
use Rattle.std.proofs.Common.{◌≡◌, ℕ, ◌+◌, List, [], ◌∷◌, ◌++◌, length, ◌<◌, get_or, take, ap, sym, subst, ◌∙◌}
use Rattle.std.proofs.lemmas.List.{take_more}
use Rattle.std.specs.List.{AllZip, range_with_len}
use Rattle.face_sets.proofs.GapLemmas.{range_more as range_grows}

pub zipped_on : {A B : Type 0} (R : A → B → Type 0) (xs : List A) (ys : List B) (x : A) (y : B) → AllZip R xs ys → R x y → AllZip R (xs ++ x ∷ []) (ys ++ y ∷ [])
zipped_on R [] [] x y h r = (r, tt)
zipped_on R [] (b ∷ ys) x y h r = absurd h
zipped_on R (a ∷ xs) [] x y h r = absurd h
zipped_on R (a ∷ xs) (b ∷ ys) x y h r = (h.0, zipped_on R xs ys x y h.1 r)

-- the next of a list, with its partner
pub zipped_next : {A B : Type 0} (R : A → B → Type 0) (xs : List A) (i : ℕ) (x : A) (ys : List B) (y : B) → i < length xs → x ≡ get_or xs i x → AllZip R (take i xs) ys → R x y → AllZip R (take (i + 1) xs) (ys ++ y ∷ [])
zipped_next {A} {B} R xs i x ys y there is h r =
    let more : take (i + 1) xs ≡ take i xs ++ x ∷ [] = take_more xs i x there ∙ ap (λ (z : A). take i xs ++ z ∷ []) (sym is) in
    subst (λ (zs : List A). AllZip R zs (ys ++ y ∷ [])) (sym more) (zipped_on R (take i xs) ys x y h r)

pub range_more : (n : ℕ) → range_with_len 0 (n + 1) ≡ range_with_len 0 n ++ n ∷ []
range_more n = range_grows n
