-- Sums of whole numbers over lists.
use Rattle.std.proofs.Common.{◌≡◌, ◌⊎◌, inl, inr, refl, sym, ap, subst, ◌∙◌, arith, ℕ, suc, ℤ, pos, ◌+ℤ◌, Bool, true, false, cond, ◌||◌, List, [], ◌∷◌, ◌++◌, All, AllPairs, Contains, filter, map, nat_eq, nat_lt}
use Rattle.std.specs.Prelude.{◌≢◌}
use Rattle.std.specs.List.{flat_map}
use Rattle.std.proofs.lemmas.Bool.{false_from_ne_true, eqb-true}
use Rattle.std.proofs.lemmas.Bool.Decides.{nat_tests}
use Rattle.std.proofs.lemmas.Int.{ints}
use Rattle.std.proofs.lemmas.List.Elements.{All-contains, Contains-get_or}
use Rattle.lists.specs.Lists.{has}
use Rattle.lists.proofs.Ascending.{IsAscending}
use Rattle.lists.proofs.Members.{Contains-cases, Contains-head, Contains-later, Contains-nil}
use Rattle.plane_model.specs.Points.{Segment}
use Rattle.plane_model.specs.Arrangement.{IsDistinct}
use Rattle.face_sets.proofs.BoundaryLemmas.{has_Contains}

abbrev pub total : {X : Type 0} → (X → ℤ) → List X → ℤ
total f [] = pos 0
total f (x ∷ xs) = f x +ℤ total f xs

module _ {X : Type 0} (f : X → ℤ) where
  pub total_append : (xs ys : List X) → total f (xs ++ ys) ≡ total f xs +ℤ total f ys
  total_append [] ys = omega (arith, ints)
  total_append (x ∷ xs) ys =
      let e = total_append xs ys in
      let t = f x in
      omega (arith, ints)

  pub total_map : {Y : Type 0} (g : Y → X) (ys : List Y) → total f (map g ys) ≡ total (λ (y : Y). f (g y)) ys
  total_map g [] = refl
  total_map g (y ∷ ys) = ap (λ (t : ℤ). f (g y) +ℤ t) (total_map g ys)

  pub total_flat_map : {Y : Type 0} (g : Y → List X) (ys : List Y) → total f (flat_map g ys) ≡ total (λ (y : Y). total f (g y)) ys
  total_flat_map g [] = refl
  total_flat_map g (y ∷ ys) = total_append (g y) (flat_map g ys) ∙ ap (λ (t : ℤ). total f (g y) +ℤ t) (total_flat_map g ys)

  pub total_filter : (p : X → Bool) (xs : List X) → total f (filter p xs) ≡ total (λ (x : X). cond (p x) (f x) (pos 0)) xs
  total_filter p [] = refl
  total_filter p (x ∷ xs) = go (p x) (total_filter p xs)
    where
      go : (b : Bool) → total f (filter p xs) ≡ total (λ (y : X). cond (p y) (f y) (pos 0)) xs → total f (cond b (x ∷ filter p xs) (filter p xs)) ≡ cond b (f x) (pos 0) +ℤ total (λ (y : X). cond (p y) (f y) (pos 0)) xs
      go true e = ap (λ (t : ℤ). f x +ℤ t) e
      go false e = omega (arith, ints)

pub total_same : {X : Type 0} (f g : X → ℤ) (xs : List X) → ((x : X) → Contains xs x → f x ≡ g x) → total f xs ≡ total g xs
total_same f g [] h = refl
total_same f g (x ∷ xs) h = λ i. h x (Contains-head x xs) i +ℤ total_same f g xs (λ y c. h y (Contains-later x xs y c)) i

pub total_zero : {X : Type 0} (xs : List X) → total (λ (x : X). pos 0) xs ≡ pos 0
total_zero [] = refl
total_zero (x ∷ xs) = let e = total_zero xs in omega (arith, ints)

pub total_sum : {X : Type 0} (f g : X → ℤ) (xs : List X) → total (λ (x : X). f x +ℤ g x) xs ≡ total f xs +ℤ total g xs
total_sum f g [] = omega (arith, ints)
total_sum f g (x ∷ xs) = four (f x) (g x) (total f xs) (total g xs) (total (λ (y : _). f y +ℤ g y) xs) (total_sum f g xs)
  where
    four : (a b c d e : ℤ) → e ≡ c +ℤ d → (a +ℤ b) +ℤ e ≡ (a +ℤ c) +ℤ (b +ℤ d)
    four a b c d e h = omega (arith, ints)

pub total_swap : {X Y : Type 0} (h : X → Y → ℤ) (xs : List X) (ys : List Y) → total (λ (x : X). total (h x) ys) xs ≡ total (λ (y : Y). total (λ (x : X). h x y) xs) ys
total_swap {X} {Y} h [] ys = sym (total_zero ys)
total_swap {X} {Y} h (x ∷ xs) ys = ap (λ (t : ℤ). total (h x) ys +ℤ t) (total_swap h xs ys) ∙ sym (total_sum (h x) (λ (y : Y). total (λ (z : X). h z y) xs) ys)

-- over numbers that rise, a value at one of them
pub total_once : (j : ℕ) (v : ℤ) (set : List ℕ) → IsAscending nat_lt set → total (λ (k : ℕ). cond (nat_eq j k) v (pos 0)) set ≡ cond (has nat_eq set j) v (pos 0)
total_once j v [] up = refl
total_once j v (k ∷ set) up = go (nat_eq j k) refl (total_once j v set up.1)
  where
    not_later : nat_eq j k ≡ true → has nat_eq set j ≡ false
    not_later e = false_from_ne_true (has nat_eq set j) (λ h.
        let less = up.0 j (has_Contains set j h) in
        let same : j ≡ k = eqb-true j k e in
        clash j k less same)
      where
        clash : (m n : ℕ) → nat_lt n m ≡ true → m ≡ n → ⊥
        clash m n l e = grind (arith, nat_tests)

    plus_none : (a b : ℤ) → b ≡ pos 0 → a +ℤ b ≡ a
    plus_none a b e = omega (arith, ints)

    none_plus : (a b : ℤ) → a ≡ b → pos 0 +ℤ a ≡ b
    none_plus a b e = omega (arith, ints)

    go : (b : Bool) → nat_eq j k ≡ b → total (λ (m : ℕ). cond (nat_eq j m) v (pos 0)) set ≡ cond (has nat_eq set j) v (pos 0) →
        cond b v (pos 0) +ℤ total (λ (m : ℕ). cond (nat_eq j m) v (pos 0)) set ≡ cond (b || has nat_eq set j) v (pos 0)
    go true e later = plus_none v (total (λ (m : ℕ). cond (nat_eq j m) v (pos 0)) set) (later ∙ ap (λ (c : Bool). cond c v (pos 0)) (not_later e))
    go false e later = none_plus (total (λ (m : ℕ). cond (nat_eq j m) v (pos 0)) set) (cond (has nat_eq set j) v (pos 0)) later

-- ---- lists of the same links, each once

record IsWithout (f : Segment → ℤ) (ys : List Segment) (x : Segment) (rest : List Segment) : Type 0 where
  sum : total f ys ≡ f x +ℤ total f rest
  kept : (z : Segment) → Contains ys z → (x ≡ z) ⊎ Contains rest z
  of_all : (z : Segment) → Contains rest z → Contains ys z
  gone : IsDistinct ys → Contains rest x → ⊥
  distinct : IsDistinct ys → IsDistinct rest

apart : (x : Segment) (xs : List Segment) → All (λ k. k ≡ x → ⊥) xs → Contains xs x → ⊥
apart x xs h c = All-contains (λ (k : Segment). k ≡ x → ⊥) xs x h c refl

take_one : (f : Segment → ℤ) (ys : List Segment) (x : Segment) → Contains ys x → (rest : List Segment) × IsWithout f ys x rest
take_one f [] x c = Contains-nil x c
take_one f (y ∷ ys) x c = elim (Contains-cases y ys x c) [
  | inl e ↦ (
    ys,
    record {
      sum = ap (λ (t : Segment). f t +ℤ total f ys) e;
      kept = λ z d. elim (Contains-cases y ys z d) [ inl g ↦ inl (sym e ∙ g) | inr more ↦ inr more ];
      of_all = λ z d. Contains-later y ys z d;
      gone = λ h d. apart y ys h.0 (subst (Contains ys) (sym e) d);
      distinct = λ h. h.1;
    },
  )
  | inr more ↦ (
      let (rest, is) = take_one f ys x more in (
        y ∷ rest,
        record {
          sum = three (f y) (f x) (total f rest) (total f ys) is.sum;
          kept = λ z d. elim (Contains-cases y ys z d) [ inl g ↦ inr (subst (Contains (y ∷ rest)) g (Contains-head y rest)) | inr there ↦ elim (is.kept z there) [ inl g ↦ inl g | inr left ↦ inr (Contains-later y rest z left) ] ];
          of_all = λ z d. elim (Contains-cases y rest z d) [ inl g ↦ subst (Contains (y ∷ ys)) g (Contains-head y ys) | inr there ↦ Contains-later y ys z (is.of_all z there) ];
          gone = λ h d. elim (Contains-cases y rest x d) [ inl g ↦ apart y ys h.0 (subst (Contains ys) (sym g) more) | inr there ↦ is.gone h.1 there ];
          distinct = λ h. ((λ i d l e. apart y ys h.0 (is.of_all y (subst (Contains rest) e (Contains-get_or rest i d l)))), is.distinct h.1);
        },
      ))
]
  where
    three : (a b c d : ℤ) → d ≡ b +ℤ c → a +ℤ d ≡ b +ℤ (a +ℤ c)
    three a b c d e = omega (arith, ints)

-- two lists that have each link once, and the same ones, have one sum
pub total_of_same : (f : Segment → ℤ) (xs ys : List Segment) → IsDistinct xs → IsDistinct ys → ((z : Segment) → Contains xs z → Contains ys z) → ((z : Segment) → Contains ys z → Contains xs z) → total f xs ≡ total f ys
total_of_same f [] [] dx dy to from = refl
total_of_same f [] (y ∷ ys) dx dy to from = Contains-nil y (from y (Contains-head y ys))
total_of_same f (x ∷ xs) ys dx dy to from =
    let (rest, is) = take_one f ys x (to x (Contains-head x xs)) in
    ap (λ (t : ℤ). f x +ℤ t) (total_of_same f xs rest dx.1 (is.distinct dy)
    (λ z c. elim (is.kept z (to z (Contains-later x xs z c))) [ inl e ↦ absurd (apart x xs dx.0 (subst (Contains xs) (sym e) c)) | inr there ↦ there ])
    (λ z c. elim (Contains-cases x xs z (from z (is.of_all z c))) [ inl e ↦ absurd (is.gone dy (subst (Contains rest) (sym e) c)) | inr there ↦ there ]))
    ∙ sym is.sum

pub distinct_from_pairs : (xs : List Segment) → AllPairs (λ k l. k ≢ l) xs → IsDistinct xs
distinct_from_pairs [] h = tt
distinct_from_pairs (x ∷ xs) h = ((λ i d l e. h 0 (suc i) d (omega arith) (omega arith) (sym e)), distinct_from_pairs xs (λ i j d less l. h (suc i) (suc j) d (omega arith) (omega arith)))
