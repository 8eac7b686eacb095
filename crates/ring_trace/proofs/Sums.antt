-- Sums over a list: of functions that are equal on it, of one that is nothing on it, and over what passes a test.
use Rattle.std.proofs.Common.{◌≡◌, refl, sym, ◌∙◌, arith, ℕ, ◌+◌, Bool, true, false, cond, List, [], ◌∷◌, filter, Contains}
use Rattle.std.specs.List.{sum_by}
use Rattle.std.proofs.lemmas.List.Sums.{sum_by-cons}
use Rattle.lists.proofs.Members.{Contains-head, Contains-later}

pub sum_by_same : {X : Type 0} (f g : X → ℕ) (xs : List X) → ((x : X) → Contains xs x → f x ≡ g x) → sum_by f xs ≡ sum_by g xs
sum_by_same f g [] h = refl
sum_by_same f g (x ∷ xs) h =
    sum_by-cons f x xs ∙ (λ i. h x (Contains-head x xs) i + sum_by_same f g xs (λ y c. h y (Contains-later x xs y c)) i) ∙ sym (sum_by-cons g x xs)

pub sum_by_none : {X : Type 0} (f : X → ℕ) (xs : List X) → ((x : X) → Contains xs x → f x ≡ 0) → sum_by f xs ≡ 0
sum_by_none f [] h = refl
sum_by_none f (x ∷ xs) h =
    sum_by-cons f x xs ∙ (λ i. h x (Contains-head x xs) i + sum_by_none f xs (λ y c. h y (Contains-later x xs y c)) i)

pub sum_by-filter : {X : Type 0} (q : X → Bool) (g : X → ℕ) (xs : List X) → sum_by g (filter q xs) ≡ sum_by (λ (x : X). cond (q x) (g x) 0) xs
sum_by-filter q g [] = refl
sum_by-filter q g (x ∷ xs) = go (q x) (sum_by-filter q g xs) ∙ sym (sum_by-cons (λ (y : _). cond (q y) (g y) 0) x xs)
  where
    go : (b : Bool) → sum_by g (filter q xs) ≡ sum_by (λ (y : _). cond (q y) (g y) 0) xs → sum_by g (cond b (x ∷ filter q xs) (filter q xs)) ≡ cond b (g x) 0 + sum_by (λ (y : _). cond (q y) (g y) 0) xs
    go true e = let m = sum_by-cons g x (filter q xs) in omega arith
    go false e = let f : sum_by g (filter q xs) ≡ 0 + sum_by (λ (y : _). cond (q y) (g y) 0) xs = omega arith in f
