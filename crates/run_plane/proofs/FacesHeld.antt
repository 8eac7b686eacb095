-- The faces that items hold, put into their sets face by face.
use Rattle.std.proofs.Common.{◌≡◌, ◌≢◌, ◌||◌, refl, sym, ap, ◌∙◌, subst, cond, arith, ⊎_elim, ℕ, zero, suc, ◌+◌, ◌<◌, ◌≤◌, Bool, true, false, List, [], ◌∷◌, ◌++◌, length, take, get_or, set, replicate, get_or-set_same, get_or-set_other}
use Rattle.std.specs.Prelude.{nat_eq, nat_lt}
use Rattle.std.specs.List.{filter, range_with_len}
use Rattle.std.proofs.Math.ListN.{length-set}
use Rattle.std.proofs.lemmas.Bool.{cases_eq, cases_order, cond-true, cond-false, eq-eqb, le-ltb, lt-ltb, ne_eqb}
use Rattle.std.proofs.lemmas.List.{append-nil, get_or-replicate, length-replicate}
use Rattle.std.proofs.lemmas.List.Elements.{filter-append}
use Rattle.std.proofs.lemmas.List.Folds.{list_any_more}
use Rattle.lists.specs.Lists.{has, put_in_order}
use Rattle.face_walk.specs.Holders.{list_at}
use Rattle.run_plane.specs.LaidOut.{AreHeldFaces, PutsInto, held_faces, put_where}
use Rattle.run_plane.proofs.Growth.{range_more}

-- ---- a number put into an ascending list

-- all numbers of the list are less than k
abbrev AllLess : ℕ → List ℕ → Type 0
AllLess k [] = Unit {0}
AllLess k (x ∷ xs) = (x < k) × AllLess k xs

put_less : (k x : ℕ) (xs : List ℕ) → x < k → put_in_order nat_lt k (x ∷ xs) ≡ x ∷ put_in_order nat_lt k xs
put_less k x xs h = cond-false _ _ _ (le-ltb k x (omega arith)) ∙ cond-true _ _ _ (lt-ltb x k h)

put_first : (k x : ℕ) (xs : List ℕ) → k < x → put_in_order nat_lt k (x ∷ xs) ≡ k ∷ x ∷ xs
put_first k x xs h = cond-true _ _ _ (lt-ltb k x h)

put_same : (k x : ℕ) (xs : List ℕ) → k ≡ x → put_in_order nat_lt k (x ∷ xs) ≡ x ∷ xs
put_same k x xs h = cond-false _ _ _ (le-ltb k x (omega arith)) ∙ cond-false _ _ _ (le-ltb x k (omega arith))

put_last : (k : ℕ) (xs : List ℕ) → AllLess k xs → put_in_order nat_lt k xs ≡ xs ++ k ∷ []
put_last k [] h = refl
put_last k (x ∷ xs) h = put_less k x xs h.0 ∙ ap (λ (ys : List ℕ). x ∷ ys) (put_last k xs h.1)

-- a number that is put in a second time changes nothing
put_again : (k : ℕ) (xs : List ℕ) → put_in_order nat_lt k (put_in_order nat_lt k xs) ≡ put_in_order nat_lt k xs
put_again k [] = put_same k k [] refl
put_again k (x ∷ xs) =
    ⊎_elim
    (λ (same : k ≡ x). ap (put_in_order nat_lt k) (put_same k x xs same))
    (⊎_elim
    (λ (first : k < x). ap (put_in_order nat_lt k) (put_first k x xs first) ∙ put_same k k (x ∷ xs) refl ∙ sym (put_first k x xs first))
    (λ (less : x < k). ap (put_in_order nat_lt k) (put_less k x xs less) ∙ put_less k x (put_in_order nat_lt k xs) less ∙ ap (λ (ys : List ℕ). x ∷ ys) (put_again k xs) ∙ sym (put_less k x xs less)))
    (cases_order k x)

less_filtered : (p : ℕ → Bool) (a n k : ℕ) → a + n ≤ k → AllLess k (filter p (range_with_len a n))
less_filtered p a zero k h = tt
less_filtered p a (suc n) k h = go (p a) (less_filtered p (a + 1) n k (omega arith))
  where
    go : (b : Bool) → AllLess k (filter p (range_with_len (a + 1) n)) → AllLess k (cond b (a ∷ filter p (range_with_len (a + 1) n)) (filter p (range_with_len (a + 1) n)))
    go true rest = (omega arith, rest)
    go false rest = rest

-- ---- the sets of some items

abbrev pub put_at : ℕ → ℕ → List (List ℕ) → List (List ℕ)
put_at n f sets = set sets n (put_in_order nat_lt f (list_at sets n))

pub puts_none : (f : ℕ) (sets : List (List ℕ)) → PutsInto [] f sets sets
puts_none f sets = record { each = refl; put = λ n l. refl }

put_more : (b : Bool) (f : ℕ) (xs : List ℕ) → put_in_order nat_lt f (put_where b f xs) ≡ put_where (b || true) f xs
put_more true f xs = put_again f xs
put_more false f xs = refl

put_no_more : (b : Bool) (f : ℕ) (xs : List ℕ) → put_where b f xs ≡ put_where (b || false) f xs
put_no_more true f xs = refl
put_no_more false f xs = refl

-- one item more
pub puts_more : (items : List ℕ) (f : ℕ) (old sets new : List (List ℕ)) (i item : ℕ) → i < length items → item ≡ get_or items i item → PutsInto (take i items) f old sets → new ≡ put_at item f sets → PutsInto (take (i + 1) items) f old new
puts_more items f old sets new i item l e h is = record {
  each = ap length is ∙ length-set sets item (put_in_order nat_lt f (list_at sets item)) ∙ h.each;
  put = λ n b. ap (λ (s : List (List ℕ)). list_at s n) is ∙ at n b ∙ sym (ap (λ (c : Bool). put_where c f (list_at old n)) (more n));
}
  where
    more : (n : ℕ) → has nat_eq (take (i + 1) items) n ≡ (has nat_eq (take i items) n || nat_eq n item)
    more n = list_any_more (nat_eq n) items i item l ∙ ap (λ (k : ℕ). has nat_eq (take i items) n || nat_eq n k) (sym e)

    at : (n : ℕ) → n < length old → list_at (put_at item f sets) n ≡ put_where (has nat_eq (take i items) n || nat_eq n item) f (list_at old n)
    at n b =
        let there : n < length sets = omega (arith, h.each) in
        ⊎_elim
        (λ (same : n ≡ item).
        let here : item < length sets = omega arith in
        ap (λ (k : ℕ). list_at (put_at item f sets) k) same
        ∙ get_or-set_same sets item (put_in_order nat_lt f (list_at sets item)) [] here
        ∙ ap (λ (k : ℕ). put_in_order nat_lt f (list_at sets k)) (sym same)
        ∙ ap (put_in_order nat_lt f) (h.put n b)
        ∙ put_more (has nat_eq (take i items) n) f (list_at old n)
        ∙ ap (λ (c : Bool). put_where (has nat_eq (take i items) n || c) f (list_at old n)) (sym (eq-eqb n item same)))
        (λ (other : n ≢ item).
        get_or-set_other sets item n (put_in_order nat_lt f (list_at sets item)) [] other
        ∙ h.put n b
        ∙ put_no_more (has nat_eq (take i items) n) f (list_at old n)
        ∙ ap (λ (c : Bool). put_where (has nat_eq (take i items) n || c) f (list_at old n)) (sym (ne_eqb n item other)))
        (cases_eq n item)

-- ---- face by face

pub no_faces : (lists : List (List ℕ)) (items : ℕ) (sets : List (List ℕ)) → sets ≡ replicate items [] → AreHeldFaces lists 0 items sets
no_faces lists items sets e = record {
  each = ap length e ∙ length-replicate items [];
  held = λ n l. ap (λ (s : List (List ℕ)). list_at s n) e ∙ get_or-replicate items n [] [] l;
}

abbrev holds : List (List ℕ) → ℕ → ℕ → Bool
holds lists n f = has nat_eq (list_at lists f) n

face_more : (lists : List (List ℕ)) (k n : ℕ) → put_where (holds lists n k) k (held_faces lists k n) ≡ held_faces lists (k + 1) n
face_more lists k n =
    go (holds lists n k)
    ∙ sym (filter-append (holds lists n) (range_with_len 0 k) (k ∷ []))
    ∙ sym (ap (filter (holds lists n)) (range_more k))
  where
    go : (b : Bool) → put_where b k (held_faces lists k n) ≡ held_faces lists k n ++ cond b (k ∷ []) []
    go true = put_last k (held_faces lists k n) (less_filtered (holds lists n) 0 k k (omega arith))
    go false = sym (append-nil (held_faces lists k n))

pub faces_more : (lists : List (List ℕ)) (items k : ℕ) (sets new : List (List ℕ)) (numbers : List ℕ) (face : ℕ) → AreHeldFaces lists k items sets → face ≡ k → numbers ≡ list_at lists face → PutsInto numbers face sets new → AreHeldFaces lists (k + 1) items new
faces_more lists items k sets new numbers face h f e p =
    let put = subst (λ (n : ℕ). PutsInto (list_at lists n) n sets new) f (subst (λ (ns : List ℕ). PutsInto ns face sets new) e p) in
    record {
      each = put.each ∙ h.each;
      held = λ n l.
          let there : n < length sets = omega (arith, h.each) in
          put.put n there ∙ ap (put_where (has nat_eq (list_at lists k) n) k) (h.held n l) ∙ face_more lists k n;
    }
