-- The last element of a list, changed in its place.
use Rattle.std.proofs.Common.{◌≡◌, ℕ, suc, ◌-◌, ◌<◌, List, [], ◌∷◌, ◌++◌, length, refl, ap, ◌∙◌, sym, subst, arith, Result, Ok, Err}
use Rattle.std.specs.Prelude.{slice_set, slice_index_or, OnOk, OnErr, All}
use Rattle.std.proofs.lemmas.Result.{on_ok_weaker}
use Rattle.std.proofs.lemmas.List.Elements.{All-nil, All-cons, All-head, All-tail, All-push}
use Rattle.lists.specs.Lists.{last_of}
use Rattle.grid_base.specs.Drawn.{with_last}

-- a write to the last place
pub set_last : {A : Type 0} (f : A → A) (xs : List A) (v d : A) → 0 < length xs → v ≡ f (slice_index_or xs (length xs - 1) d) → slice_set xs (length xs - 1) v ≡ with_last f xs
set_last f [] v d l e = absurd (omega arith)
set_last f (x ∷ []) v d l e = ap (λ w. w ∷ []) e
set_last {A} f (x ∷ y ∷ rest) v d l e =
    let n : length (x ∷ y ∷ rest) - 1 ≡ suc (length (y ∷ rest) - 1) = omega arith in
    let here : v ≡ f (slice_index_or (y ∷ rest) (length (y ∷ rest) - 1) d) = e ∙ ap (λ (m : ℕ). f (slice_index_or (x ∷ y ∷ rest) m d)) n in
    ap (λ (m : ℕ). slice_set (x ∷ y ∷ rest) m v) n ∙ ap (λ (ws : List A). x ∷ ws) (set_last f (y ∷ rest) v d (omega arith) here)

-- the last element, read by its place
pub last_is : {A : Type 0} (xs : List A) (d e : A) → 0 < length xs → slice_index_or xs (length xs - 1) d ≡ last_of e xs
last_is [] d e l = absurd (omega arith)
last_is (x ∷ []) d e l = refl
last_is (x ∷ y ∷ rest) d e l =
    let n : length (x ∷ y ∷ rest) - 1 ≡ suc (length (y ∷ rest) - 1) = omega arith in
    ap (λ (m : ℕ). slice_index_or (x ∷ y ∷ rest) m d) n ∙ last_is (y ∷ rest) d x (omega arith)

-- what holds of the value before a refused push and of the value after one that succeeds, holds after it
pub after_push : {X T E : Type 0} (P : X → Type 0) (r : Result T E) (old grown new : X) → OnOk r (new ≡ grown) → OnErr r (new ≡ old) → P grown → P old → P new
after_push P (Ok u) old grown new ok err g o = subst P (sym ok) g
after_push P (Err u) old grown new ok err g o = subst P (sym err) o

-- the same, where a call that may be refused has changed the last of n elements
pub write_last : {A T E : Type 0} (f : A → A) (xs ys : List A) (r : Result T E) (n : ℕ) (x v : A) → xs ≡ ys → n ≡ length xs → 0 < length ys → x ≡ slice_index_or xs (n - 1) x → OnOk r (v ≡ f x) → OnOk r (slice_set xs (n - 1) v ≡ with_last f ys)
write_last {A} f xs ys r n x v same e l read =
    on_ok_weaker r (λ (h : v ≡ f x). ap (λ (m : ℕ). slice_set xs (m - 1) v) e ∙ set_last f xs v x (omega (arith, ap length same)) (h ∙ ap f (read ∙ ap (λ (m : ℕ). slice_index_or xs (m - 1) x) e)) ∙ ap (with_last f) same)

-- the last of n elements has what all have
pub holds_of_last : {A : Type 0} (P : A → Type 0) (xs : List A) (n : ℕ) (x : A) → n ≡ length xs → 0 < length xs → x ≡ slice_index_or xs (n - 1) x → All P xs → P x
holds_of_last P xs n x e l read all = subst P (sym read) (all (n - 1) x (omega arith))

-- where the last list of a list has something, there is a last one
pub some_in_last : {A : Type 0} (xss : List (List A)) → 0 < length (last_of [] xss) → 0 < length xss
some_in_last [] l = l
some_in_last (xs ∷ xss) l = omega arith

-- that something, where the last of n lists is read
pub last_read : {A : Type 0} (xss yss : List (List A)) (n : ℕ) (xs : List A) → xss ≡ yss → n ≡ length xss → 0 < length (last_of [] yss) → xs ≡ slice_index_or xss (n - 1) xs → 0 < length xs
last_read {A} xss yss n xs same e l read =
    let some : 0 < length yss = some_in_last yss l in
    let is : xs ≡ last_of [] yss = read ∙ ap (λ (m : ℕ). slice_index_or xss (m - 1) xs) e ∙ last_is xss xs [] (omega (arith, ap length same)) ∙ ap (last_of []) same in
    omega (arith, ap length is)

-- one more element of the last list, where all elements have P
pub ring_in_last : {A : Type 0} (P : A → Type 0) (x : A) → P x → (xss : List (List A)) → All (All P) xss → All (All P) (with_last (λ (xs : List A). xs ++ x ∷ []) xss)
ring_in_last P x p [] all = all
ring_in_last P x p (xs ∷ []) all = All-cons (All P) (xs ++ x ∷ []) [] (All-push P xs x (All-head (All P) xs [] all) p) (All-nil (All P))
ring_in_last P x p (xs ∷ ys ∷ rest) all = All-cons (All P) xs (with_last (λ zs. zs ++ x ∷ []) (ys ∷ rest)) (All-head (All P) xs (ys ∷ rest) all) (ring_in_last P x p (ys ∷ rest) (All-tail (All P) xs (ys ∷ rest) all))
