-- Lists without an element twice.
use Rattle.std.proofs.Common.{◌≡◌, ℕ, suc, zero, ◌+◌, ◌<◌, Bool, false, cond, List, [], ◌∷◌, ◌++◌, map, length, take, get_or, refl, sym, ap, ◌∙◌, arith}
use Rattle.std.specs.List.{IsDistinct, AllByRecursion, list_any}
use Rattle.std.specs.Cmp.{IsEquivalence}
use Rattle.std.proofs.lemmas.List.{take_more}
use Rattle.indexmap.specs.IndexSet.{insert_key}

all_map : {A B : Type 0} (P : B → Type 0) (f : A → B) (xs : List A) → AllByRecursion (λ x. P (f x)) xs → AllByRecursion P (map f xs)
all_map P f [] h = tt
all_map P f (x ∷ xs) h = (h.0, all_map P f xs h.1)

-- of a mapped list, by what the elements are mapped to
pub IsDistinct-map : {A B : Type 0} (f : A → B) (eq : B → B → Bool) (xs : List A) → IsDistinct (λ a b. eq (f a) (f b)) xs → IsDistinct eq (map f xs)
unfolding IsDistinct
IsDistinct-map f eq [] h = tt
IsDistinct-map f eq (x ∷ xs) h = (all_map (λ y. eq (f x) y ≡ false) f xs h.0, IsDistinct-map f eq xs h.1)

pub IsDistinct-none : {A : Type 0} (eq : A → A → Bool) → IsDistinct eq []
unfolding IsDistinct
IsDistinct-none eq = tt

all_at : {A : Type 0} (P : A → Type 0) (xs : List A) (i : ℕ) (d : A) → AllByRecursion P xs → i < length xs → P (get_or xs i d)
all_at P [] i d h less = absurd (omega arith)
all_at P (x ∷ xs) zero d h less = h.0
all_at P (x ∷ xs) (suc i) d h less = all_at P xs i d h.1 (omega arith)

-- an element is none of those before it
pub absent_before : {A : Type 0} {eq : A → A → Bool} → IsEquivalence eq → (xs : List A) (i : ℕ) (d : A) → IsDistinct eq xs → i < length xs → list_any (eq (get_or xs i d)) (take i xs) ≡ false
unfolding IsDistinct
absent_before laws [] i d h less = absurd (omega arith)
absent_before laws (x ∷ xs) zero d h less = refl
absent_before {eq = eq} laws (x ∷ xs) (suc i) d h less =
    let other : eq (get_or xs i d) x ≡ false = laws.symm (get_or xs i d) x ∙ all_at (λ y. eq x y ≡ false) xs i d h.0 (omega arith) in
    rw other (absent_before laws xs i d h.1 (omega arith))

-- and is appended to them as a new one
pub insert_key-take : {A : Type 0} {eq : A → A → Bool} → IsEquivalence eq → (xs : List A) (i : ℕ) (d : A) → IsDistinct eq xs → i < length xs → insert_key eq (take i xs) (get_or xs i d) ≡ take (i + 1) xs
insert_key-take {eq = eq} laws xs i d h less =
    ap (λ b. cond b (take i xs) (take i xs ++ get_or xs i d ∷ [])) (absent_before laws xs i d h less) ∙ sym (take_more xs i d less)
