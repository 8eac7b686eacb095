-- What holds of every element of a list, and functions of lists that agree on every element.
use Rattle.std.proofs.Common.{◌≡◌, refl, ℕ, zero, suc, ◌+◌, Bool, true, false, cond, not, ◌&&◌, ◌||◌, List, [], ◌∷◌, ◌++◌, map, filter, get_or, All, Option, Some, None, Contains}
use Rattle.std.specs.Prelude.{slice_index_or, if◌then◌else◌}
use Rattle.std.specs.List.{AllZip, cons_option, filter_map, flat_map, list_all, list_any}
use Rattle.std.proofs.lemmas.List.Elements.{All-cons, All-nil, Contains-get_or}
use Rattle.lists.specs.Lists.{each_once, joined_up, numbers_from}
use Rattle.lists.proofs.Members.{Contains-head, Contains-later}

-- each element has the property
abbrev pub Every : {A : Type 0} → (A → Type 0) → List A → Type 0
Every P [] = Unit {0}
Every P (x ∷ xs) = P x × Every P xs

module _ {A : Type 0} where
  pub every_from : (P : A → Type 0) (xs : List A) → ((x : A) → Contains xs x → P x) → Every P xs
  every_from P [] h = tt
  every_from P (x ∷ xs) h = (h x (Contains-head x xs), every_from P xs (λ y c. h y (Contains-later x xs y c)))

  pub every_by : (P Q : A → Type 0) → ((x : A) → P x → Q x) → (xs : List A) → Every P xs → Every Q xs
  every_by P Q f [] h = tt
  every_by P Q f (x ∷ xs) h = (f x h.0, every_by P Q f xs h.1)

  pub every_all : (P : A → Type 0) → ((x : A) → P x) → (xs : List A) → Every P xs
  every_all P f [] = tt
  every_all P f (x ∷ xs) = (f x, every_all P f xs)

  pub every_append : (P : A → Type 0) (xs ys : List A) → Every P xs → Every P ys → Every P (xs ++ ys)
  every_append P [] ys h g = g
  every_append P (x ∷ xs) ys h g = (h.0, every_append P xs ys h.1 g)

  pub every_joined : (P : A → Type 0) (xss : List (List A)) → Every (Every P) xss → Every P (joined_up xss)
  every_joined P [] h = tt
  every_joined P (xs ∷ xss) h = every_append P xs (joined_up xss) h.0 (every_joined P xss h.1)

  pub every_filter : (P : A → Type 0) (test : A → Bool) (xs : List A) → Every P xs → Every P (filter test xs)
  every_filter P test [] h = tt
  every_filter P test (x ∷ xs) h = go (test x) (every_filter P test xs h.1)
    where
      go : (b : Bool) → Every P (filter test xs) → Every P (cond b (x ∷ filter test xs) (filter test xs))
      go true g = (h.0, g)
      go false g = g

  pub every_once : (P : A → Type 0) (same : A → A → Bool) (xs : List A) → Every P xs → Every P (each_once same xs)
  every_once P same [] h = tt
  every_once P same (x ∷ xs) h = (h.0, every_filter P (λ y. not (same x y)) (each_once same xs) (every_once P same xs h.1))

  pub every_place : (P : A → Type 0) (d : A) → P d → (xs : List A) → Every P xs → (n : ℕ) → P (slice_index_or xs n d)
  every_place P d p [] h n = p
  every_place P d p (x ∷ xs) h zero = h.0
  every_place P d p (x ∷ xs) h (suc n) = every_place P d p xs h.1 n

module _ {A B : Type 0} where
  pub every_map : (P : A → Type 0) (Q : B → Type 0) (f : A → B) → ((x : A) → P x → Q (f x)) → (xs : List A) → Every P xs → Every Q (map f xs)
  every_map P Q f k [] h = tt
  every_map P Q f k (x ∷ xs) h = (k x h.0, every_map P Q f k xs h.1)

  pub every_flat : (P : A → Type 0) (Q : B → Type 0) (f : A → List B) → ((x : A) → P x → Every Q (f x)) → (xs : List A) → Every P xs → Every Q (flat_map f xs)
  every_flat P Q f k [] h = tt
  every_flat P Q f k (x ∷ xs) h = every_append Q (f x) (flat_map f xs) (k x h.0) (every_flat P Q f k xs h.1)

  pub every_kept : (P : A → Type 0) (Q : B → Type 0) (f : A → Option B) → ((x : A) (y : B) → P x → f x ≡ Some y → Q y) → (xs : List A) → Every P xs → Every Q (filter_map f xs)
  every_kept P Q f k [] h = tt
  every_kept P Q f k (x ∷ xs) h = go (f x) refl (every_kept P Q f k xs h.1)
    where
      go : (o : Option B) → f x ≡ o → Every Q (filter_map f xs) → Every Q (cons_option o (filter_map f xs))
      go None e g = g
      go (Some y) e g = (k x y h.0 e, g)

-- ## As std says it

module _ {A : Type 0} where
  pub all_from : (P : A → Type 0) (xs : List A) → ((x : A) → Contains xs x → P x) → All P xs
  all_from P xs h k d l = h (get_or xs k d) (Contains-get_or xs k d l)

  pub all_by : (P Q : A → Type 0) → ((x : A) → P x → Q x) → (xs : List A) → Every P xs → All Q xs
  all_by P Q f [] h = All-nil Q
  all_by P Q f (x ∷ xs) h = All-cons Q x xs (f x h.0) (all_by P Q f xs h.1)

-- of the second list, by what each pair has
pub all_zip : {A B : Type 0} (P : A → Type 0) (R : A → B → Type 0) (Q : B → Type 0) → ((x : A) (y : B) → P x → R x y → Q y) → (xs : List A) (ys : List B) → Every P xs → AllZip R xs ys → All Q ys
all_zip P R Q f [] [] h g = All-nil Q
all_zip P R Q f [] (y ∷ ys) h g = absurd g
all_zip P R Q f (x ∷ xs) [] h g = absurd g
all_zip P R Q f (x ∷ xs) (y ∷ ys) h g = All-cons Q y ys (f x y h.0 g.0) (all_zip P R Q f xs ys h.1 g.1)

-- ## Functions that agree

-- the two functions agree on the element
abbrev pub SameAt : {A B : Type 0} → (A → B) → (A → B) → A → Type 0
SameAt f g x = f x ≡ g x

module _ {A : Type 0} (f g : A → Bool) where
  pub same_filter : (xs : List A) → Every (SameAt f g) xs → filter f xs ≡ filter g xs
  same_filter [] h = refl
  same_filter (x ∷ xs) h = λ i. cond (h.0 i) (x ∷ same_filter xs h.1 i) (same_filter xs h.1 i)

  pub same_any : (xs : List A) → Every (SameAt f g) xs → list_any f xs ≡ list_any g xs
  same_any [] h = refl
  same_any (x ∷ xs) h = λ i. h.0 i || same_any xs h.1 i

  pub same_all : (xs : List A) → Every (SameAt f g) xs → list_all f xs ≡ list_all g xs
  same_all [] h = refl
  same_all (x ∷ xs) h = λ i. h.0 i && same_all xs h.1 i

  pub same_numbers : (n : ℕ) (xs : List A) → Every (SameAt f g) xs → numbers_from n f xs ≡ numbers_from n g xs
  same_numbers n [] h = refl
  same_numbers n (x ∷ xs) h = λ i. if h.0 i then n ∷ same_numbers (n + 1) xs h.1 i else same_numbers (n + 1) xs h.1 i

module _ {A B : Type 0} where
  pub same_map : (f g : A → B) (xs : List A) → Every (SameAt f g) xs → map f xs ≡ map g xs
  same_map f g [] h = refl
  same_map f g (x ∷ xs) h = λ i. h.0 i ∷ same_map f g xs h.1 i

  pub same_flat : (f g : A → List B) (xs : List A) → Every (SameAt f g) xs → flat_map f xs ≡ flat_map g xs
  same_flat f g [] h = refl
  same_flat f g (x ∷ xs) h = λ i. h.0 i ++ same_flat f g xs h.1 i

  pub same_kept : (f g : A → Option B) (xs : List A) → Every (SameAt f g) xs → filter_map f xs ≡ filter_map g xs
  same_kept f g [] h = refl
  same_kept f g (x ∷ xs) h = λ i. cons_option (h.0 i) (same_kept f g xs h.1 i)
