-- What is put into the last element of a list, piece by piece.
use Rattle.std.proofs.Common.{◌≡◌, refl, sym, ap, ◌∙◌, arith, ℕ, ◌+◌, ◌<◌, List, [], ◌∷◌, ◌++◌, map, take, length, get_or, append_assoc}
use Rattle.std.proofs.lemmas.List.{append-nil, map_more, take_more}
use Rattle.lists.specs.Lists.{last_of}
use Rattle.grid_base.specs.Drawn.{with_last}

last_twice : {A : Type 0} (f g : A → A) (xs : List A) → with_last f (with_last g xs) ≡ with_last (λ x. f (g x)) xs
last_twice f g [] = refl
last_twice f g (x ∷ []) = refl
last_twice f g (x ∷ y ∷ []) = refl
last_twice {A} f g (x ∷ y ∷ z ∷ rest) = ap (λ (ys : List A). x ∷ ys) (last_twice f g (y ∷ z ∷ rest))

last_same : {A : Type 0} (f g : A → A) (xs : List A) → ((x : A) → f x ≡ g x) → with_last f xs ≡ with_last g xs
last_same {A} f g xs e = ap (λ (h : A → A). with_last h xs) (λ i x. e x i)

last_kept : {A : Type 0} (f : A → A) (xs : List A) → ((x : A) → f x ≡ x) → with_last f xs ≡ xs
last_kept f [] e = refl
last_kept {A} f (x ∷ []) e = ap (λ (y : A). y ∷ []) (e x)
last_kept {A} f (x ∷ y ∷ rest) e = ap (λ (ys : List A). x ∷ ys) (last_kept f (y ∷ rest) e)

last_put : {A : Type 0} (f : A → A) (xs : List A) (x : A) → with_last f (xs ++ x ∷ []) ≡ xs ++ f x ∷ []
last_put f [] x = refl
last_put f (y ∷ []) x = refl
last_put {A} f (y ∷ z ∷ rest) x = ap (λ (ys : List A). y ∷ ys) (last_put f (z ∷ rest) x)

pub last_length : {A : Type 0} (f : A → A) (xs : List A) → length (with_last f xs) ≡ length xs
last_length f [] = refl
last_length f (x ∷ []) = refl
last_length f (x ∷ y ∷ rest) = let h = last_length f (y ∷ rest) in omega arith

last_with : {A : Type 0} (f : A → A) (d : A) (xs : List A) → 0 < length xs → last_of d (with_last f xs) ≡ f (last_of d xs)
last_with f d [] l = absurd (omega arith)
last_with f d (x ∷ []) l = refl
last_with f d (x ∷ y ∷ []) l = refl
last_with f d (x ∷ y ∷ z ∷ rest) l = last_with f x (y ∷ z ∷ rest) (omega arith)

-- ---- a list in the last place of a list

module _ {A : Type 0} where
  pub nothing_added : (xss : List (List A)) → with_last (λ (xs : List A). xs ++ []) xss ≡ xss
  nothing_added xss = last_kept (λ (xs : List A). xs ++ []) xss append-nil

  pub one_more : (x : A) (ys : List A) (xss : List (List A)) → with_last (λ (xs : List A). xs ++ x ∷ []) (with_last (λ (xs : List A). xs ++ ys) xss) ≡ with_last (λ (xs : List A). xs ++ (ys ++ x ∷ [])) xss
  one_more x ys xss =
      last_twice (λ (xs : List A). xs ++ x ∷ []) (λ (xs : List A). xs ++ ys) xss
      ∙ last_same (λ (xs : List A). (xs ++ ys) ++ x ∷ []) (λ (xs : List A). xs ++ (ys ++ x ∷ [])) xss (λ xs. append_assoc xs ys (x ∷ []))

  pub in_new : (ys : List A) (xss : List (List A)) → with_last (λ (xs : List A). xs ++ ys) (xss ++ [] ∷ []) ≡ xss ++ ys ∷ []
  in_new ys xss = last_put (λ (xs : List A). xs ++ ys) xss []

  pub new_there : (x : A) (xss : List (List A)) → 0 < length xss → 0 < length (last_of [] (with_last (λ (xs : List A). xs ++ x ∷ []) xss))
  new_there x xss l =
      let e : length (last_of [] (with_last (λ (xs : List A). xs ++ x ∷ []) xss)) ≡ length (last_of [] xss ++ x ∷ []) = ap length (last_with (λ (xs : List A). xs ++ x ∷ []) [] xss l) in
      let f : length (last_of [] xss ++ x ∷ []) ≡ length (last_of [] xss) + 1 = longer (last_of [] xss) in
      omega arith
    where
      longer : (xs : List A) → length (xs ++ x ∷ []) ≡ length xs + 1
      longer [] = refl
      longer (y ∷ xs) = let h = longer xs in omega arith

  pub last_stays : (f : A → A) (xss : List (List A)) → length (last_of [] (with_last (with_last f) xss)) ≡ length (last_of [] xss)
  last_stays f [] = refl
  last_stays f (xs ∷ xss) = ap length (last_with (with_last f) [] (xs ∷ xss) (omega arith)) ∙ last_length f (last_of [] (xs ∷ xss))

  -- one level further in
  pub nothing_added_in : (xsss : List (List (List A))) → with_last (with_last (λ (xs : List A). xs ++ [])) xsss ≡ xsss
  nothing_added_in xsss = last_kept (with_last (λ (xs : List A). xs ++ [])) xsss nothing_added

  pub one_more_in : (x : A) (ys : List A) (xsss : List (List (List A))) → with_last (with_last (λ (xs : List A). xs ++ x ∷ [])) (with_last (with_last (λ (xs : List A). xs ++ ys)) xsss) ≡ with_last (with_last (λ (xs : List A). xs ++ (ys ++ x ∷ []))) xsss
  one_more_in x ys xsss =
      last_twice (with_last (λ (xs : List A). xs ++ x ∷ [])) (with_last (λ (xs : List A). xs ++ ys)) xsss
      ∙ last_same (λ (xss : List (List A)). with_last (λ (xs : List A). xs ++ x ∷ []) (with_last (λ (xs : List A). xs ++ ys) xss)) (with_last (λ (xs : List A). xs ++ (ys ++ x ∷ []))) xsss (one_more x ys)

  one_more_to : (yss : List (List A)) (xsss : List (List (List A))) → with_last (λ (xss : List (List A)). xss ++ [] ∷ []) (with_last (λ (xss : List (List A)). xss ++ yss) xsss) ≡ with_last (λ (xss : List (List A)). xss ++ (yss ++ [] ∷ [])) xsss
  one_more_to yss xsss =
      last_twice (λ (xss : List (List A)). xss ++ [] ∷ []) (λ (xss : List (List A)). xss ++ yss) xsss
      ∙ last_same (λ (xss : List (List A)). (xss ++ yss) ++ [] ∷ []) (λ (xss : List (List A)). xss ++ (yss ++ [] ∷ [])) xsss (λ xss. append_assoc xss yss ([] ∷ []))

  -- a new list in the last place, and what is put into it
  pub new_more_in : (zs : List A) (yss : List (List A)) (xsss : List (List (List A))) → with_last (with_last (λ (xs : List A). xs ++ zs)) (with_last (λ (xss : List (List A)). xss ++ [] ∷ []) (with_last (λ (xss : List (List A)). xss ++ yss) xsss)) ≡ with_last (λ (xss : List (List A)). xss ++ (yss ++ zs ∷ [])) xsss
  new_more_in zs yss xsss =
      let put : List (List A) → List (List A) = with_last (λ (xs : List A). xs ++ zs) in
      ap (with_last put) (one_more_to yss xsss)
      ∙ last_twice put (λ (xss : List (List A)). xss ++ (yss ++ [] ∷ [])) xsss
      ∙ last_same (λ (xss : List (List A)). put (xss ++ (yss ++ [] ∷ []))) (λ (xss : List (List A)). xss ++ (yss ++ zs ∷ [])) xsss
      (λ xss. ap put (sym (append_assoc xss yss ([] ∷ []))) ∙ in_new zs (xss ++ yss) ∙ append_assoc xss yss (zs ∷ []))

-- ---- loops

pub mapped_more : {A B : Type 0} (f : A → B) (xs : List A) (i : ℕ) (x : A) → i < length xs → x ≡ get_or xs i x → map f (take i xs) ++ f x ∷ [] ≡ map f (take (i + 1) xs)
mapped_more {A} f xs i x l e = ap (λ (y : A). map f (take i xs) ++ f y ∷ []) e ∙ sym (map_more f xs i x l)

pub taken_more : {A : Type 0} (xs : List A) (i : ℕ) (x : A) → i < length xs → x ≡ get_or xs i x → take i xs ++ x ∷ [] ≡ take (i + 1) xs
taken_more {A} xs i x l e = ap (λ (y : A). take i xs ++ y ∷ []) e ∙ sym (take_more xs i x l)

-- a new element after those that were there before the loop
pub put_more : {A : Type 0} (x : A) (before ys zs : List A) → ys ++ x ∷ [] ≡ zs → (before ++ ys) ++ x ∷ [] ≡ before ++ zs
put_more {A} x before ys zs e = append_assoc before ys (x ∷ []) ∙ ap (λ (ws : List A). before ++ ws) e
