-- The numbers of the items that pass a test, item by item; those that pass a stronger test are among them.
use Rattle.std.proofs.Common.{◌≡◌, refl, sym, ap, ◌∙◌, subst, arith, ℕ, zero, suc, ◌+◌, ◌<◌, Bool, true, false, cond, ◌&&◌, List, [], ◌∷◌, ◌++◌, length, get_or, take, map, filter, All, Contains, append_assoc, length-append, length-take}
use Rattle.std.proofs.lemmas.List.{take_more, get_or-append-add, get_or-map, length-map}
use Rattle.std.proofs.lemmas.List.Elements.{All-nil, All-cons, All-weaker}
use Rattle.lists.proofs.Members.{Contains-head, Contains-later}
use Rattle.lists.specs.Lists.{numbers_from, numbers_where}

module _ {A : Type 0} where
  numbers_from-append : (n : ℕ) (p : A → Bool) (xs ys : List A) → numbers_from n p (xs ++ ys) ≡ numbers_from n p xs ++ numbers_from (n + length xs) p ys
  numbers_from-append n p [] ys = ap (λ (m : ℕ). numbers_from m p ys) (let e : n ≡ n + 0 = omega arith in e)
  numbers_from-append n p (x ∷ xs) ys = go (p x) (numbers_from-append (n + 1) p xs ys)
    where
      go : (b : Bool) → numbers_from (n + 1) p (xs ++ ys) ≡ numbers_from (n + 1) p xs ++ numbers_from (n + 1 + length xs) p ys →
          cond b (n ∷ numbers_from (n + 1) p (xs ++ ys)) (numbers_from (n + 1) p (xs ++ ys)) ≡ cond b (n ∷ numbers_from (n + 1) p xs) (numbers_from (n + 1) p xs) ++ numbers_from (n + suc (length xs)) p ys
      go true e = ap (λ (l : List ℕ). n ∷ l) (e ∙ ap (λ (m : ℕ). numbers_from (n + 1) p xs ++ numbers_from m p ys) (omega arith))
      go false e = e ∙ ap (λ (m : ℕ). numbers_from (n + 1) p xs ++ numbers_from m p ys) (omega arith)

  pub numbers_where_more : (p : A → Bool) (xs : List A) (i : ℕ) (d : A) → i < length xs → numbers_where p (take (i + 1) xs) ≡ numbers_where p (take i xs) ++ cond (p (get_or xs i d)) (i ∷ []) []
  numbers_where_more p xs i d l =
      ap (numbers_where p) (take_more xs i d l) ∙ numbers_from-append 0 p (take i xs) (get_or xs i d ∷ []) ∙
      ap (λ (m : ℕ). numbers_from 0 p (take i xs) ++ cond (p (get_or xs i d)) (m ∷ []) []) (let e : 0 + length (take i xs) ≡ i = omega (arith, length-take i xs) in e)

  numbers_below : (n : ℕ) (p : A → Bool) (xs : List A) → All (λ i. i < n + length xs) (numbers_from n p xs)
  numbers_below n p [] = All-nil (λ i. i < n + 0)
  numbers_below n p (x ∷ xs) = go (p x) (All-weaker (λ i. i < n + 1 + length xs) (λ i. i < n + suc (length xs)) (λ i l. omega arith) (numbers_from (n + 1) p xs) (numbers_below (n + 1) p xs))
    where
      go : (b : Bool) → All (λ i. i < n + suc (length xs)) (numbers_from (n + 1) p xs) → All (λ i. i < n + suc (length xs)) (cond b (n ∷ numbers_from (n + 1) p xs) (numbers_from (n + 1) p xs))
      go true h = All-cons (λ i. i < n + suc (length xs)) n (numbers_from (n + 1) p xs) (omega arith) h
      go false h = h

  pub numbers_where_below : (p : A → Bool) (xs : List A) → All (λ i. i < length xs) (numbers_where p xs)
  numbers_where_below p xs = All-weaker (λ i. i < 0 + length xs) (λ i. i < length xs) (λ i l. omega arith) (numbers_where p xs) (numbers_below 0 p xs)

  numbers_from-Contains : (n : ℕ) (p : A → Bool) (xs : List A) (i : ℕ) (d : A) → i < length xs → p (get_or xs i d) ≡ true → Contains (numbers_from n p xs) (n + i)
  numbers_from-Contains n p [] i d l e = absurd (omega arith)
  numbers_from-Contains n p (x ∷ xs) zero d l e =
      subst (λ (b : Bool). Contains (cond b (n ∷ numbers_from (n + 1) p xs) (numbers_from (n + 1) p xs)) (n + 0)) (sym e)
      (subst (λ (m : ℕ). Contains (n ∷ numbers_from (n + 1) p xs) m) (let f : n ≡ n + 0 = omega arith in f) (Contains-head n (numbers_from (n + 1) p xs)))
  numbers_from-Contains n p (x ∷ xs) (suc i) d l e = go (p x) (subst (λ (m : ℕ). Contains (numbers_from (n + 1) p xs) m) (let f : n + 1 + i ≡ n + suc i = omega arith in f) (numbers_from-Contains (n + 1) p xs i d (omega arith) e))
    where
      go : (b : Bool) → Contains (numbers_from (n + 1) p xs) (n + suc i) → Contains (cond b (n ∷ numbers_from (n + 1) p xs) (numbers_from (n + 1) p xs)) (n + suc i)
      go true c = Contains-later n (numbers_from (n + 1) p xs) (n + suc i) c
      go false c = c

  -- the number of an item that passes is listed
  pub Contains-numbers_where : (p : A → Bool) (xs : List A) (i : ℕ) (d : A) → i < length xs → p (get_or xs i d) ≡ true → Contains (numbers_where p xs) i
  Contains-numbers_where p xs i d l e = subst (λ (m : ℕ). Contains (numbers_where p xs) m) (let f : 0 + i ≡ i = omega arith in f) (numbers_from-Contains 0 p xs i d l e)

  module _ (p q : A → Bool) (d : A) where
    abbrev both : A → Bool
    both x = p x && q x

    -- at one item, with the rest of the list done
    at_item : (full : List A) (n : ℕ) (x : A) (xs : List A) (b c : Bool) → get_or full n d ≡ x → q x ≡ c →
        filter (λ i. q (get_or full i d)) (numbers_from (n + 1) p xs) ≡ numbers_from (n + 1) both xs →
        filter (λ i. q (get_or full i d)) (cond b (n ∷ numbers_from (n + 1) p xs) (numbers_from (n + 1) p xs)) ≡ cond (b && c) (n ∷ numbers_from (n + 1) both xs) (numbers_from (n + 1) both xs)
    at_item full n x xs true true here f r =
        ap (λ (t : Bool). cond t (n ∷ filter (λ i. q (get_or full i d)) (numbers_from (n + 1) p xs)) (filter (λ i. q (get_or full i d)) (numbers_from (n + 1) p xs))) (ap q here ∙ f) ∙ ap (λ (l : List ℕ). n ∷ l) r
    at_item full n x xs true false here f r =
        ap (λ (t : Bool). cond t (n ∷ filter (λ i. q (get_or full i d)) (numbers_from (n + 1) p xs)) (filter (λ i. q (get_or full i d)) (numbers_from (n + 1) p xs))) (ap q here ∙ f) ∙ r
    at_item full n x xs false c here f r = r

    filter_numbers : (before xs : List A) → filter (λ i. q (get_or (before ++ xs) i d)) (numbers_from (length before) p xs) ≡ numbers_from (length before) both xs
    filter_numbers before [] = refl
    filter_numbers before (x ∷ xs) =
        let here : get_or (before ++ x ∷ xs) (length before) d ≡ x = ap (λ (m : ℕ). get_or (before ++ x ∷ xs) m d) (let e : length before ≡ length before + 0 = omega arith in e) ∙ get_or-append-add before (x ∷ xs) 0 d in
        let e : length (before ++ x ∷ []) ≡ length before + 1 = omega (arith, length-append before (x ∷ [])) in
        let f : (before ++ x ∷ []) ++ xs ≡ before ++ x ∷ xs = append_assoc before (x ∷ []) xs in
        let rest : filter (λ i. q (get_or (before ++ x ∷ xs) i d)) (numbers_from (length before + 1) p xs) ≡ numbers_from (length before + 1) both xs =
        subst (λ (l : List A). filter (λ i. q (get_or l i d)) (numbers_from (length before + 1) p xs) ≡ numbers_from (length before + 1) both xs) f
        (subst (λ (m : ℕ). filter (λ i. q (get_or ((before ++ x ∷ []) ++ xs) i d)) (numbers_from m p xs) ≡ numbers_from m both xs) e (filter_numbers (before ++ x ∷ []) xs)) in
        at_item (before ++ x ∷ xs) (length before) x xs (p x) (q x) here refl rest

    -- among the numbers of the items that pass p, those whose items pass q
    pub filter-numbers_where : (xs : List A) → filter (λ i. q (get_or xs i d)) (numbers_where p xs) ≡ numbers_where both xs
    filter-numbers_where xs = filter_numbers [] xs

-- the numbers of the items of which f gives something that passes, item by item
pub numbers_where_map_more : {A B : Type 0} (p : B → Bool) (f : A → B) (xs : List A) (i : ℕ) (d : A) → i < length xs →
    numbers_where p (take (i + 1) (map f xs)) ≡ numbers_where p (take i (map f xs)) ++ cond (p (f (get_or xs i d))) (i ∷ []) []
numbers_where_map_more p f xs i d l =
    numbers_where_more p (map f xs) i (f d) (omega (arith, length-map xs f))
    ∙ ap (λ y. numbers_where p (take i (map f xs)) ++ cond (p y) (i ∷ []) []) (get_or-map f xs i d (f d) l)
