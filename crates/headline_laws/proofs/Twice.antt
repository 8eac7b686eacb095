-- A name stands twice exactly if there are fewer names than layers.
use Rattle.std.proofs.Common.{◌≡◌, inl, inr, refl, sym, ap, ◌∙◌, arith, ℕ, suc, ◌<◌, ◌≤◌, Bool, true, false, not, cond, ◌||◌, nat_lt, List, [], ◌∷◌, length, filter, bytes_eq}
use Rattle.std.specs.List.{list_any}
use Rattle.std.proofs.lemmas.Bool.{cases_lt, false_from_ne_true, le-ltb, lt-ltb}
use Rattle.std.proofs.lemmas.Slice.Eq.{bytes_eq-Decides}
use Rattle.lists.specs.Lists.{each_once}
use Rattle.table_terms.specs.Names.{Text, has_name}
use Rattle.run_texts.specs.Written.{has_name_twice}

-- ---- elements that are left out

module _ {A : Type 0} (p : A → Bool) where
  abbrev others : List A → List A
  others xs = filter (λ (x : A). not (p x)) xs

  others_short : (xs : List A) → length (others xs) ≤ length xs
  others_short [] = omega arith
  others_short (x ∷ xs) = go (p x) (others_short xs)
    where
      go : (b : Bool) → length (others xs) ≤ length xs → length (cond (not b) (x ∷ others xs) (others xs)) ≤ suc (length xs)
      go true l = omega arith
      go false l = omega arith

  -- where one is left out there are fewer
  others_fewer : (xs : List A) → list_any p xs ≡ true → length (others xs) < length xs
  others_fewer [] e = absurd (let f : false ≡ true = e in cc)
  others_fewer (x ∷ xs) e = go (p x) e (others_fewer xs) (others_short xs)
    where
      go : (b : Bool) → (b || list_any p xs) ≡ true → (list_any p xs ≡ true → length (others xs) < length xs) → length (others xs) ≤ length xs → length (cond (not b) (x ∷ others xs) (others xs)) < suc (length xs)
      go true e more l = omega arith
      go false e more l = let h = more e in omega arith

  -- and where none is they are the same
  others_same : (xs : List A) → list_any p xs ≡ false → others xs ≡ xs
  others_same [] e = refl
  others_same (x ∷ xs) e = go (p x) e (others_same xs)
    where
      go : (b : Bool) → (b || list_any p xs) ≡ false → (list_any p xs ≡ false → others xs ≡ xs) → cond (not b) (x ∷ others xs) (others xs) ≡ x ∷ xs
      go true e more = absurd (let f : true ≡ false = e in cc)
      go false e more = ap (λ (ys : List A). x ∷ ys) (more e)

-- elements that pass one test are among those that pass another, if each of them does
any_kept : {A : Type 0} (p q : A → Bool) → ((x : A) → p x ≡ true → q x ≡ true) → (xs : List A) → list_any p (filter q xs) ≡ list_any p xs
any_kept p q passes [] = refl
any_kept p q passes (x ∷ xs) = go (p x) (q x) refl refl (any_kept p q passes xs)
  where
    go : (b c : Bool) → p x ≡ b → q x ≡ c → list_any p (filter q xs) ≡ list_any p xs → list_any p (cond c (x ∷ filter q xs) (filter q xs)) ≡ (b || list_any p xs)
    go b true e f same = λ i. e i || same i
    go false false e f same = same
    go true false e f same = absurd (let g : true ≡ false = sym (passes x e) ∙ f in cc)

-- ---- names

any_once : (name : Text) (names : List Text) → list_any (bytes_eq name) (each_once bytes_eq names) ≡ list_any (bytes_eq name) names
any_once name [] = refl
any_once name (x ∷ names) = go (bytes_eq name x) refl (any_once name names)
  where
    go : (b : Bool) → bytes_eq name x ≡ b → list_any (bytes_eq name) (each_once bytes_eq names) ≡ list_any (bytes_eq name) names → (b || list_any (bytes_eq name) (filter (λ (y : Text). not (bytes_eq x y)) (each_once bytes_eq names))) ≡ (b || list_any (bytes_eq name) names)
    go true e more = refl
    go false e more =
        any_kept (bytes_eq name) (λ (y : Text). not (bytes_eq x y)) (λ y f. ap not (false_from_ne_true (bytes_eq x y) (λ g.
        let one : name ≡ y = (bytes_eq-Decides name y).0 f in
        let other : x ≡ y = (bytes_eq-Decides x y).0 g in
        let both : bytes_eq name x ≡ true = (bytes_eq-Decides name x).1 (one ∙ sym other) in
        let clash : true ≡ false = sym both ∙ e in
        absurd (cc)))) (each_once bytes_eq names)
        ∙ more

once_short : (names : List Text) → length (each_once bytes_eq names) ≤ length names
once_short [] = omega arith
once_short (x ∷ names) =
    let l = once_short names in
    let m = others_short (bytes_eq x) (each_once bytes_eq names) in
    omega arith

one_more : (m n : ℕ) → nat_lt (suc m) (suc n) ≡ nat_lt m n
one_more m n = elim (cases_lt m n) [
  | inl l ↦ lt-ltb (suc m) (suc n) (omega arith) ∙ sym (lt-ltb m n l)
  | inr l ↦ le-ltb (suc m) (suc n) (omega arith) ∙ sym (le-ltb m n l)
]

pub fewer_names : (names : List Text) → nat_lt (length (each_once bytes_eq names)) (length names) ≡ has_name_twice names
fewer_names [] = refl
fewer_names (x ∷ names) = go (has_name names x) refl (fewer_names names)
  where
    E : List Text
    E = each_once bytes_eq names

    go : (b : Bool) → has_name names x ≡ b → nat_lt (length E) (length names) ≡ has_name_twice names → nat_lt (suc (length (others (bytes_eq x) E))) (suc (length names)) ≡ (b || has_name_twice names)
    go true e more =
        let l = others_fewer (bytes_eq x) E (any_once x names ∙ e) in
        let m = once_short names in
        lt-ltb (suc (length (others (bytes_eq x) E))) (suc (length names)) (omega arith)
    go false e more =
        ap (λ (n : ℕ). nat_lt (suc n) (suc (length names))) (ap length (others_same (bytes_eq x) E (any_once x names ∙ e)))
        ∙ one_more (length E) (length names)
        ∙ more
