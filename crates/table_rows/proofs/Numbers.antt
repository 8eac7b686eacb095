-- The numbers of the elements that pass a test, with one element more.
use Rattle.std.proofs.Common.{◌≡◌, ℕ, suc, ◌+◌, ◌<◌, ◌≤◌, All, Bool, true, false, cond, ◌||◌, List, [], ◌∷◌, ◌++◌, length, take, get_or, refl, sym, ap, ◌∙◌, add-zero, zero-add, true≢false, length-take-le, arith}
use Rattle.std.proofs.lemmas.List.Elements.{All-nil, All-cons}
use Rattle.std.specs.List.{list_any}
use Rattle.std.proofs.lemmas.List.{take_more}
use Rattle.lists.specs.Lists.{numbers_from, numbers_where}

cond_append : {A : Type 0} (b : Bool) (x : A) (xs ys : List A) → cond b (x ∷ (xs ++ ys)) (xs ++ ys) ≡ cond b (x ∷ xs) xs ++ ys
cond_append true x xs ys = refl
cond_append false x xs ys = refl

numbers_from-push : {A : Type 0} (n : ℕ) (test : A → Bool) (xs : List A) (x : A) → numbers_from n test (xs ++ x ∷ []) ≡ numbers_from n test xs ++ cond (test x) ((n + length xs) ∷ []) []
numbers_from-push n test [] x = ap (λ (k : ℕ). cond (test x) (k ∷ []) []) (sym (add-zero n))
numbers_from-push n test (y ∷ ys) x =
    let further : n + 1 + length ys ≡ n + suc (length ys) = omega arith in
    ap (λ (r : List ℕ). cond (test y) (n ∷ r) r) (numbers_from-push (n + 1) test ys x ∙ ap (λ (k : ℕ). numbers_from (n + 1) test ys ++ cond (test x) (k ∷ []) []) further)
    ∙ cond_append (test y) n (numbers_from (n + 1) test ys) (cond (test x) ((n + suc (length ys)) ∷ []) [])

pub numbers_where-push : {A : Type 0} (test : A → Bool) (xs : List A) (x : A) → numbers_where test (xs ++ x ∷ []) ≡ numbers_where test xs ++ cond (test x) (length xs ∷ []) []
numbers_where-push test xs x = numbers_from-push 0 test xs x ∙ ap (λ (k : ℕ). numbers_where test xs ++ cond (test x) (k ∷ []) []) (zero-add (length xs))

-- of the first i + 1 elements
pub numbers_where_more : {A : Type 0} (test : A → Bool) (xs : List A) (i : ℕ) (d : A) → i < length xs
    → numbers_where test (take (i + 1) xs) ≡ numbers_where test (take i xs) ++ cond (test (get_or xs i d)) (i ∷ []) []
numbers_where_more test xs i d less =
    let long : length (take i xs) ≡ i = length-take-le i xs (omega arith) in
    ap (numbers_where test) (take_more xs i d less) ∙ numbers_where-push test (take i xs) (get_or xs i d)
    ∙ ap (λ (k : ℕ). numbers_where test (take i xs) ++ cond (test (get_or xs i d)) (k ∷ []) []) long

none_first : {A : Type 0} (n : ℕ) (test : A → Bool) (x : A) (xs : List A) (b : Bool) → test x ≡ b → (test x || list_any test xs) ≡ false
    → (list_any test xs ≡ false → numbers_from (n + 1) test xs ≡ []) → numbers_from n test (x ∷ xs) ≡ []
none_first n test x xs true e f rest = absurd (true≢false (sym (ap (λ (c : Bool). c || list_any test xs) e) ∙ f))
none_first n test x xs false e f rest =
    ap (λ (c : Bool). cond c (n ∷ numbers_from (n + 1) test xs) (numbers_from (n + 1) test xs)) e
    ∙ rest (sym (ap (λ (c : Bool). c || list_any test xs) e) ∙ f)

numbers_from-none : {A : Type 0} (n : ℕ) (test : A → Bool) (xs : List A) → list_any test xs ≡ false → numbers_from n test xs ≡ []
numbers_from-none n test [] none = refl
numbers_from-none n test (x ∷ xs) none = none_first n test x xs (test x) refl none (numbers_from-none (n + 1) test xs)

-- no element passes
pub numbers_where-none : {A : Type 0} (test : A → Bool) (xs : List A) → list_any test xs ≡ false → numbers_where test xs ≡ []
numbers_where-none test xs none = numbers_from-none 0 test xs none

-- each number that is found stands below the end
pub numbers_from-below : {A : Type 0} (m n : ℕ) (test : A → Bool) (xs : List A) → n + length xs ≤ m → All (λ k. k < m) (numbers_from n test xs)
numbers_from-below m n test [] h = All-nil (λ k. k < m)
numbers_from-below {A} m n test (x ∷ xs) h =
    let rest : All (λ k. k < m) (numbers_from (n + 1) test xs) = numbers_from-below m (n + 1) test xs (omega arith) in
    elim (test x) as (λ (b : Bool). All (λ k. k < m) (cond b (n ∷ numbers_from (n + 1) test xs) (numbers_from (n + 1) test xs))) [
      | true ↦ All-cons (λ k. k < m) n (numbers_from (n + 1) test xs) (omega arith) rest
      | false ↦ rest
    ]

pub numbers_where-below : {A : Type 0} (test : A → Bool) (xs : List A) → All (λ k. k < length xs) (numbers_where test xs)
numbers_where-below test xs = numbers_from-below (length xs) 0 test xs (omega arith)
