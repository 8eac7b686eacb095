-- Tests of a mapped list are tests of the list.
use Rattle.std.proofs.Common.{◌≡◌, ℕ, ◌+◌, ◌≤◌, Bool, true, false, cond, not, ◌||◌, List, [], ◌∷◌, ◌++◌, map, length, Some, None, refl, sym, ap, ◌∙◌, arith}
use Rattle.std.specs.Prelude.{position}
use Rattle.std.specs.List.{list_any, position_or_len, prefix_len}
use Rattle.std.proofs.lemmas.List.{map_push}
use Rattle.std.proofs.lemmas.List.Sums.{prefix_len-le-length}
use Rattle.std.proofs.lemmas.Bool.Decides.{nat_tests}
use Rattle.indexmap.specs.IndexSet.{insert_key}

module _ {A B : Type 0} (f : A → B) where
  pub list_any-map : (p : B → Bool) (xs : List A) → list_any p (map f xs) ≡ list_any (λ x. p (f x)) xs
  list_any-map p [] = refl
  list_any-map p (x ∷ xs) = ap (λ b. p (f x) || b) (list_any-map p xs)

  pub prefix_len-map : (p : B → Bool) (xs : List A) → prefix_len p (map f xs) ≡ prefix_len (λ x. p (f x)) xs
  prefix_len-map p [] = refl
  prefix_len-map p (x ∷ xs) = ap (λ n. cond (p (f x)) (1 + n) 0) (prefix_len-map p xs)

  pub position_or_len-map : (p : B → Bool) (xs : List A) → position_or_len p (map f xs) ≡ position_or_len (λ x. p (f x)) xs
  position_or_len-map p xs = prefix_len-map (λ y. not (p y)) xs

-- where an element is found is its first place
pub place_found : {A : Type 0} (p : A → Bool) (xs : List A) (i : ℕ) → Some i ≡ position p xs → position_or_len p xs ≡ i
place_found p xs i h = grind (arith, nat_tests)

-- and where none is found that is the length
pub place_missing : {A : Type 0} (p : A → Bool) (xs : List A) → None ≡ position p xs → position_or_len p xs ≡ length xs
place_missing p xs h =
    let within : position_or_len p xs ≤ length xs = prefix_len-le-length (λ x. not (p x)) xs in
    grind (arith, nat_tests)

-- a mapped list with one more key, where keys are compared by what they are mapped to
pub insert_key-map : {A B : Type 0} (f : A → B) (eq : B → B → Bool) (ks : List A) (k : A) → map f (insert_key (λ a b. eq (f a) (f b)) ks k) ≡ insert_key eq (map f ks) (f k)
insert_key-map f eq ks k =
    by (list_any (λ x. eq (f k) (f x)) ks) refl
  where
    by : (b : Bool) → list_any (λ x. eq (f k) (f x)) ks ≡ b → map f (insert_key (λ a b. eq (f a) (f b)) ks k) ≡ insert_key eq (map f ks) (f k)
    by true e =
        ap (λ c. map f (cond c ks (ks ++ k ∷ []))) e ∙ sym (ap (λ c. cond c (map f ks) (map f ks ++ f k ∷ [])) (list_any-map f (eq (f k)) ks ∙ e))
    by false e =
        ap (λ c. map f (cond c ks (ks ++ k ∷ []))) e ∙ map_push f ks k ∙ sym (ap (λ c. cond c (map f ks) (map f ks ++ f k ∷ [])) (list_any-map f (eq (f k)) ks ∙ e))
