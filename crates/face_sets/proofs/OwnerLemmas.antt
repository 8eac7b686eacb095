-- Numbers put to the lists of faces, set by set.
use Rattle.std.proofs.Common.{◌≡◌, refl, sym, ap, ◌∙◌, subst, arith, ℕ, ◌+◌, ◌<◌, Bool, true, false, cond, ◌||◌, List, [], ◌∷◌, ◌++◌, length, get_or, take, nat_eq, All, append-nil, length-set, length-take, suc, map}
use Rattle.std.specs.List.{list_any}
use Rattle.std.specs.List.Sorted.{IsStrictlyIncreasing}
use Rattle.std.proofs.lemmas.Bool.{eqb-true, eqb-false, ne_eqb}
use Rattle.std.proofs.lemmas.List.{get_or-set_same, get_or-set_other, get_or-take}
use Rattle.std.proofs.lemmas.List.Elements.{All-from_get_or, All-get_or, All-weaker}
use Rattle.std.proofs.lemmas.List.Folds.{list_any_none, list_any_more}
use Rattle.std.proofs.lemmas.List.Kept.{AllPairs-from_increasing}
use Rattle.lists.specs.Lists.{has, numbers_from}
use Rattle.bucket_grid.proofs.Numbers.{numbers_where_more, numbers_where_below}
use Rattle.face_sets.specs.Owners.{owners_of, AreOwners, with_number, IsNumbered}

-- at one place, where the number of a set is appended to the list at place f, one of its faces
at_face : (n k f : ℕ) (old lists : List (List ℕ)) → k < length lists → (before here : Bool) → nat_eq k f ≡ here → (here ≡ true → before ≡ false) →
    get_or lists k [] ≡ get_or old k [] ++ cond before (n ∷ []) [] → get_or (with_number n f lists) k [] ≡ get_or old k [] ++ cond (before || here) (n ∷ []) []
at_face n k f old lists l true true e first h = absurd (let t : true ≡ false = first refl in cc)
at_face n k f old lists l false true e first h =
    subst (λ (g : ℕ). get_or (with_number n g lists) k [] ≡ get_or old k [] ++ n ∷ []) (eqb-true k f e)
    (get_or-set_same lists k (get_or lists k [] ++ n ∷ []) [] l ∙ ap (λ (xs : List ℕ). xs ++ n ∷ []) (h ∙ append-nil (get_or old k [])))
at_face n k f old lists l true false e first h = get_or-set_other lists f k (get_or lists f [] ++ n ∷ []) [] (eqb-false k f e) ∙ h
at_face n k f old lists l false false e first h = get_or-set_other lists f k (get_or lists f [] ++ n ∷ []) [] (eqb-false k f e) ∙ h

-- a face of an ascending list does not stand before its place
not_before : (faces : List ℕ) (j k d : ℕ) → IsStrictlyIncreasing faces → j < length faces → nat_eq k (get_or faces j d) ≡ true → list_any (nat_eq k) (take j faces) ≡ false
not_before faces j k d up within e =
    let same : k ≡ get_or faces j d = eqb-true k (get_or faces j d) e in
    list_any_none (nat_eq k) (take j faces) (All-from_get_or (λ y. nat_eq k y ≡ false) (take j faces) d (λ i l. ne_eqb k (get_or (take j faces) i d) (λ there.
    let before : i < j = omega (arith, length-take j faces) in
    let less : get_or faces i d < get_or faces j d = AllPairs-from_increasing faces up i j d before within in
    let here : get_or (take j faces) i d ≡ get_or faces i d = get_or-take j faces i d before in
    omega arith)))

pub numbered_more : (n j f d : ℕ) (faces : List ℕ) (old lists : List (List ℕ)) → IsStrictlyIncreasing faces → j < length faces → f ≡ get_or faces j d →
    IsNumbered n (take j faces) old lists → IsNumbered n (take (j + 1) faces) old (with_number n f lists)
numbered_more n j f d faces old lists up within is h = record {
  each = simp length-set h.each;
  exact = λ k l. subst (λ (b : Bool). get_or (with_number n f lists) k [] ≡ get_or old k [] ++ cond b (n ∷ []) []) (sym (list_any_more (nat_eq k) faces j d within))
      (at_face n k f old lists (let e = h.each in omega arith) (list_any (nat_eq k) (take j faces)) (nat_eq k (get_or faces j d)) (ap (nat_eq k) is) (not_before faces j k d up within) (h.exact k l));
}

-- ---- the owners of each face

pub owners_none : (count : ℕ) (lists : List (List ℕ)) → length lists ≡ count → All (λ (list : List ℕ). list ≡ []) lists → AreOwners [] count lists
owners_none count lists each empty = record { each = each; exact = λ k l. All-get_or (λ (list : List ℕ). list ≡ []) lists k [] (omega arith) empty }

pub owners_more : (sets : List (List ℕ)) (count n : ℕ) (set d : List ℕ) (old new : List (List ℕ)) → n < length sets → set ≡ get_or sets n d →
    AreOwners (take n sets) count old → IsNumbered n set old new → AreOwners (take (n + 1) sets) count new
owners_more sets count n set d old new within is before more = record {
  each = more.each ∙ before.each;
  exact = λ k l.
      more.exact k (let e = before.each in omega arith)
      ∙ (λ i. before.exact k l i ++ cond (has nat_eq (is i) k) (n ∷ []) [])
      ∙ sym (numbers_where_more (λ (s : List ℕ). has nat_eq s k) sets n d within);
}

-- the number of an owner is that of a set
pub owners_below : (sets : List (List ℕ)) (m count : ℕ) (owners : List (List ℕ)) → AreOwners (take m sets) count owners → All (All (λ n. n < length sets)) owners
owners_below sets m count owners h = All-from_get_or (All (λ n. n < length sets)) owners [] (λ k l.
    subst (λ (list : List ℕ). All (λ n. n < length sets) list) (sym (h.exact k (let e = h.each in omega arith)))
    (All-weaker (λ n. n < length (take m sets)) (λ n. n < length sets) (λ n below. omega (arith, length-take m sets)) (owners_of (take m sets) k)
    (numbers_where_below (λ (s : List ℕ). has nat_eq s k) (take m sets))))

-- tests that agree at each place give the same numbers
pub numbers_alike : {X Y : Type 0} (k : ℕ) (t : X → Bool) (u : Y → Bool) (xs : List X) (ys : List Y) (c : X) (e : Y) → length ys ≡ length xs → ((i : ℕ) → i < length xs → t (get_or xs i c) ≡ u (get_or ys i e)) → numbers_from k t xs ≡ numbers_from k u ys
numbers_alike k t u [] [] c e many h = refl
numbers_alike k t u [] (y ∷ ys) c e many h = absurd (omega arith)
numbers_alike k t u (x ∷ xs) [] c e many h = absurd (omega arith)
numbers_alike k t u (x ∷ xs) (y ∷ ys) c e many h =
    λ i. cond (h 0 (omega arith) i) (k ∷ numbers_alike (k + 1) t u xs ys c e (omega arith) (λ j l. h (suc j) (omega arith)) i) (numbers_alike (k + 1) t u xs ys c e (omega arith) (λ j l. h (suc j) (omega arith)) i)

pub numbers-map : {A B : Type 0} (n : ℕ) (test : B → Bool) (f : A → B) (xs : List A) → numbers_from n test (map f xs) ≡ numbers_from n (λ (x : A). test (f x)) xs
numbers-map n test f [] = refl
numbers-map n test f (x ∷ xs) = ap (λ (ns : List ℕ). cond (test (f x)) (n ∷ ns) ns) (numbers-map (n + 1) test f xs)
