-- Lists that agree place by place, and what is made of both alike.
use Rattle.std.proofs.Common.{◌≡◌, refl, ap, subst, arith, ℕ, zero, suc, ◌+◌, ◌<◌, Bool, true, false, cond, ◌&&◌, List, [], ◌∷◌, ◌++◌, length, map, get_or, filter, All}
use Rattle.std.specs.List.{AllZip, list_all, flat_map}
use Rattle.std.proofs.lemmas.List.Elements.{All-head, All-tail}
use Rattle.lists.specs.Lists.{joined_up, numbers_from, numbers_where}

-- a relation and tests that agree where it holds
abbrev pub Agree : {A B : Type 0} → (A → B → Type 0) → (A → Bool) → (B → Bool) → Type 0
Agree {A} {B} R p q = (x : A) (y : B) → R x y → p x ≡ q y

module _ {A B : Type 0} (R : A → B → Type 0) where
  pub zip_long : (xs : List A) (ys : List B) → AllZip R xs ys → length xs ≡ length ys
  zip_long [] [] z = refl
  zip_long [] (y ∷ ys) z = absurd z
  zip_long (x ∷ xs) [] z = absurd z
  zip_long (x ∷ xs) (y ∷ ys) z = ap suc (zip_long xs ys z.1)

  pub zip_at : (xs : List A) (ys : List B) → AllZip R xs ys → (n : ℕ) (d : A) (e : B) → n < length xs → R (get_or xs n d) (get_or ys n e)
  zip_at [] [] z n d e l = absurd (omega arith)
  zip_at [] (y ∷ ys) z n d e l = absurd z
  zip_at (x ∷ xs) [] z n d e l = absurd z
  zip_at (x ∷ xs) (y ∷ ys) z zero d e l = z.0
  zip_at (x ∷ xs) (y ∷ ys) z (suc n) d e l = zip_at xs ys z.1 n d e (omega arith)

  -- also past the end, where it holds of what stands there
  pub zip_anywhere : (xs : List A) (ys : List B) → AllZip R xs ys → (d : A) (e : B) → R d e → (n : ℕ) → R (get_or xs n d) (get_or ys n e)
  zip_anywhere [] [] z d e r n = r
  zip_anywhere [] (y ∷ ys) z d e r n = absurd z
  zip_anywhere (x ∷ xs) [] z d e r n = absurd z
  zip_anywhere (x ∷ xs) (y ∷ ys) z d e r zero = z.0
  zip_anywhere (x ∷ xs) (y ∷ ys) z d e r (suc n) = zip_anywhere xs ys z.1 d e r n

  pub zip_joined : (xs : List A) (ys : List B) (us : List A) (vs : List B) → AllZip R xs ys → AllZip R us vs → AllZip R (xs ++ us) (ys ++ vs)
  zip_joined [] [] us vs z w = w
  zip_joined [] (y ∷ ys) us vs z w = absurd z
  zip_joined (x ∷ xs) [] us vs z w = absurd z
  zip_joined (x ∷ xs) (y ∷ ys) us vs z w = (z.0, zip_joined xs ys us vs z.1 w)

  pub zip_joined_up : (xs : List (List A)) (ys : List (List B)) → AllZip (AllZip R) xs ys → AllZip R (joined_up xs) (joined_up ys)
  zip_joined_up [] [] z = tt
  zip_joined_up [] (y ∷ ys) z = absurd z
  zip_joined_up (x ∷ xs) [] z = absurd z
  zip_joined_up (x ∷ xs) (y ∷ ys) z = zip_joined x y (joined_up xs) (joined_up ys) z.0 (zip_joined_up xs ys z.1)

  -- elements taken by their numbers
  pub zip_taken : (xs : List A) (ys : List B) → AllZip R xs ys → (d : A) (e : B) (ns : List ℕ) → All (λ n. n < length xs) ns → AllZip R (map (λ (n : ℕ). get_or xs n d) ns) (map (λ (n : ℕ). get_or ys n e) ns)
  zip_taken xs ys z d e [] below = tt
  zip_taken xs ys z d e (n ∷ ns) below = (zip_at xs ys z n d e (All-head (λ n. n < length xs) n ns below), zip_taken xs ys z d e ns (All-tail (λ n. n < length xs) n ns below))

  -- with what holds of each element on the left
  pub zip_with_all : (P : A → Type 0) (xs : List A) (ys : List B) → AllZip R xs ys → All P xs → AllZip (λ (x : A) (y : B). R x y × P x) xs ys
  zip_with_all P [] [] z a = tt
  zip_with_all P [] (y ∷ ys) z a = absurd z
  zip_with_all P (x ∷ xs) [] z a = absurd z
  zip_with_all P (x ∷ xs) (y ∷ ys) z a = ((z.0, All-head P x xs a), zip_with_all P xs ys z.1 (All-tail P x xs a))

  -- ---- elements that pass a test

  module _ (p : A → Bool) (q : B → Bool) (agree : Agree R p q) where
    keep : (x : A) (y : B) (xs : List A) (ys : List B) → R x y → AllZip R xs ys → (b c : Bool) → b ≡ c → AllZip R (cond b (x ∷ xs) xs) (cond c (y ∷ ys) ys)
    keep x y xs ys r z b c e = subst (λ (t : Bool). AllZip R (cond b (x ∷ xs) xs) (cond t (y ∷ ys) ys)) e (go b)
      where
        go : (b : Bool) → AllZip R (cond b (x ∷ xs) xs) (cond b (y ∷ ys) ys)
        go true = (r, z)
        go false = z

    pub zip_filter : (xs : List A) (ys : List B) → AllZip R xs ys → AllZip R (filter p xs) (filter q ys)
    zip_filter [] [] z = tt
    zip_filter [] (y ∷ ys) z = absurd z
    zip_filter (x ∷ xs) [] z = absurd z
    zip_filter (x ∷ xs) (y ∷ ys) z = keep x y (filter p xs) (filter q ys) z.0 (zip_filter xs ys z.1) (p x) (q y) (agree x y z.0)

    pub zip_numbers_from : (n : ℕ) (xs : List A) (ys : List B) → AllZip R xs ys → numbers_from n p xs ≡ numbers_from n q ys
    zip_numbers_from n [] [] z = refl
    zip_numbers_from n [] (y ∷ ys) z = absurd z
    zip_numbers_from n (x ∷ xs) [] z = absurd z
    zip_numbers_from n (x ∷ xs) (y ∷ ys) z =
        let here = agree x y z.0 in
        let rest = zip_numbers_from (n + 1) xs ys z.1 in
        λ i. cond (here i) (n ∷ rest i) (rest i)

    pub zip_numbers : (xs : List A) (ys : List B) → AllZip R xs ys → numbers_where p xs ≡ numbers_where q ys
    zip_numbers xs ys z = zip_numbers_from 0 xs ys z

    pub zip_all : (xs : List A) (ys : List B) → AllZip R xs ys → list_all p xs ≡ list_all q ys
    zip_all [] [] z = refl
    zip_all [] (y ∷ ys) z = absurd z
    zip_all (x ∷ xs) [] z = absurd z
    zip_all (x ∷ xs) (y ∷ ys) z =
        let here = agree x y z.0 in
        let rest = zip_all xs ys z.1 in
        λ i. here i && rest i

  -- ---- values that are the same

  pub zip_same : {C : Type 0} (f : A → C) (g : B → C) → ((x : A) (y : B) → R x y → f x ≡ g y) → (xs : List A) (ys : List B) → AllZip R xs ys → map f xs ≡ map g ys
  zip_same f g same [] [] z = refl
  zip_same f g same [] (y ∷ ys) z = absurd z
  zip_same f g same (x ∷ xs) [] z = absurd z
  zip_same f g same (x ∷ xs) (y ∷ ys) z =
      let here = same x y z.0 in
      let rest = zip_same f g same xs ys z.1 in
      λ i. here i ∷ rest i

  -- ---- what functions make of them

  module _ {C D : Type 0} (S : C → D → Type 0) where
    pub zip_map : (f : A → C) (g : B → D) → ((x : A) (y : B) → R x y → S (f x) (g y)) → (xs : List A) (ys : List B) → AllZip R xs ys → AllZip S (map f xs) (map g ys)
    zip_map f g makes [] [] z = tt
    zip_map f g makes [] (y ∷ ys) z = absurd z
    zip_map f g makes (x ∷ xs) [] z = absurd z
    zip_map f g makes (x ∷ xs) (y ∷ ys) z = (makes x y z.0, zip_map f g makes xs ys z.1)

-- what a function makes of one side
pub zip_left : {A B C : Type 0} (S : C → B → Type 0) (f : A → C) (xs : List A) (ys : List B) → AllZip (λ (x : A) (y : B). S (f x) y) xs ys → AllZip S (map f xs) ys
zip_left S f [] [] z = tt
zip_left S f [] (y ∷ ys) z = absurd z
zip_left S f (x ∷ xs) [] z = absurd z
zip_left S f (x ∷ xs) (y ∷ ys) z = (z.0, zip_left S f xs ys z.1)

pub zip_right : {A B D : Type 0} (S : A → D → Type 0) (g : B → D) (xs : List A) (ys : List B) → AllZip (λ (x : A) (y : B). S x (g y)) xs ys → AllZip S xs (map g ys)
zip_right S g [] [] z = tt
zip_right S g [] (y ∷ ys) z = absurd z
zip_right S g (x ∷ xs) [] z = absurd z
zip_right S g (x ∷ xs) (y ∷ ys) z = (z.0, zip_right S g xs ys z.1)

-- a relation that follows from another
pub zip_weaker : {A B : Type 0} (R S : A → B → Type 0) → ((x : A) (y : B) → R x y → S x y) → (xs : List A) (ys : List B) → AllZip R xs ys → AllZip S xs ys
zip_weaker R S by [] [] z = tt
zip_weaker R S by [] (y ∷ ys) z = absurd z
zip_weaker R S by (x ∷ xs) [] z = absurd z
zip_weaker R S by (x ∷ xs) (y ∷ ys) z = (by x y z.0, zip_weaker R S by xs ys z.1)

-- the lists that functions make, joined
pub zip_flat_map : {A B C D : Type 0} (R : A → B → Type 0) (S : C → D → Type 0) (f : A → List C) (g : B → List D) → ((x : A) (y : B) → R x y → AllZip S (f x) (g y)) →
    (xs : List A) (ys : List B) → AllZip R xs ys → AllZip S (flat_map f xs) (flat_map g ys)
zip_flat_map R S f g makes [] [] z = tt
zip_flat_map R S f g makes [] (y ∷ ys) z = absurd z
zip_flat_map R S f g makes (x ∷ xs) [] z = absurd z
zip_flat_map R S f g makes (x ∷ xs) (y ∷ ys) z = zip_joined S (f x) (g y) (flat_map f xs) (flat_map g ys) (makes x y z.0) (zip_flat_map R S f g makes xs ys z.1)
