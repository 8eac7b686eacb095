-- What is made of one element after another.
use Rattle.std.proofs.Common.{◌≡◌, ℕ, ◌+◌, ◌<◌, List, [], ◌∷◌, ◌++◌, length, get_or, map, take, sym, ap, ◌∙◌}
use Rattle.std.proofs.lemmas.List.{map_more}

pub mapped_on : {A B : Type 0} (f : A → B) (xs : List A) (i : ℕ) (x : A) (ys now : List B) (y : B) → i < length xs → x ≡ get_or xs i x → ys ≡ map f (take i xs) → y ≡ f x → now ≡ ys ++ y ∷ [] → now ≡ map f (take (i + 1) xs)
mapped_on f xs i x ys now y l is before made pushed =
    pushed ∙ ap (λ (zs : List _). zs ++ y ∷ []) before ∙ ap (λ (z : _). map f (take i xs) ++ z ∷ []) (made ∙ ap f is) ∙ sym (map_more f xs i x l)
