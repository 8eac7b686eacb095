-- How often signed arcs are in lists: among all of them, on the boundary of a set, and along edges.
use Rattle.std.proofs.Common.{◌≡◌, ◌⊎◌, inl, inr, refl, sym, ap, ◌∙◌, arith, ℕ, zero, suc, ◌+◌, ◌*◌, Bool, true, false, ◌&&◌, ◌||◌, cond, List, [], ◌∷◌, get_or, map, filter, nat_eq, nat_lt, Contains}
use Rattle.std.specs.List.{sum_by}
use Rattle.std.specs.List.Sorted.{IsStrictlyIncreasing}
use Rattle.std.proofs.lemmas.Bool.{cases_lt, cases_eq, eq-eqb, eqb-true, ne_eqb, lt-ltb, le-ltb, ltb-true}
use Rattle.std.proofs.lemmas.List.Elements.{All-from_get_or, Contains-get_or}
use Rattle.std.proofs.lemmas.List.Folds.{list_any_none, fold-map}
use Rattle.std.proofs.lemmas.List.Sums.{sum_by-cons, sum_by-append}
use Rattle.lists.specs.Lists.{has}
use Rattle.lists.proofs.Ascending.{IsAscending}
use Rattle.plane_model.specs.Arcs.{SignedArc, forward, backward}
use Rattle.face_walk.specs.Places.{place_of, face_left_of, has_left, signed_below, arcs_with_left}
use Rattle.face_sets.specs.declared.joined_faces.Side.{Side}
use Rattle.face_sets.specs.Boundary.{is_outward, outward_at, side_at, sides_from, sides_of}
use Rattle.ring_trace.specs.Traced.{same_arc, times, is_of_boundary, once_if}
use Rattle.face_sets.proofs.SetLemmas.{to_ascending}
use Rattle.ring_trace.proofs.Sums.{sum_by-filter, sum_by_none, sum_by_same}

-- ---- one arc

pub same_place : (a b : SignedArc) → place_of a ≡ place_of b → a ≡ b
same_place a b e = go a.is_reversed b.is_reversed refl refl
  where
    place : (c : SignedArc) (t : Bool) → c.is_reversed ≡ t → place_of c ≡ cond t (2 * c.arc + 2) (2 * c.arc + 1)
    place c t f = ap (λ (s : Bool). cond s (2 * c.arc + 2) (2 * c.arc + 1)) f

    is : a.arc ≡ b.arc → a.is_reversed ≡ b.is_reversed → a ≡ b
    is f g = λ i. record { arc = f i; is_reversed = g i }

    go : (s t : Bool) → a.is_reversed ≡ s → b.is_reversed ≡ t → a ≡ b
    go true true f g = is (let p = place a true f in let q = place b true g in omega arith) (f ∙ sym g)
    go false false f g = is (let p = place a false f in let q = place b false g in omega arith) (f ∙ sym g)
    go true false f g = let p = place a true f in let q = place b false g in absurd (omega arith)
    go false true f g = let p = place a false f in let q = place b true g in absurd (omega arith)

-- the arcs that pass a test
pub times-filter : (a : SignedArc) (q : SignedArc → Bool) (xs : List SignedArc) → times a (filter q xs) ≡ cond (q a) (times a xs) 0
times-filter a q xs =
    sum_by-filter q (λ (y : SignedArc). once_if (same_arc a y)) xs
    ∙ sum_by_same (λ (y : SignedArc). cond (q y) (once_if (same_arc a y)) 0) (λ (y : SignedArc). cond (q a) (once_if (same_arc a y)) 0) xs (λ y c. one y (same_arc a y) refl)
    ∙ all (q a)
  where
    neither : (b c : Bool) → cond b (once_if false) 0 ≡ cond c (once_if false) 0
    neither true true = refl
    neither true false = refl
    neither false true = refl
    neither false false = refl

    one : (y : SignedArc) (b : Bool) → same_arc a y ≡ b → cond (q y) (once_if (same_arc a y)) 0 ≡ cond (q a) (once_if (same_arc a y)) 0
    one y true e = ap (λ (x : SignedArc). cond (q x) (once_if (same_arc a y)) 0) (sym (same_place a y (eqb-true (place_of a) (place_of y) e)))
    one y false e = ap (λ (b : Bool). cond (q y) (once_if b) 0) e ∙ neither (q y) (q a) ∙ sym (ap (λ (b : Bool). cond (q a) (once_if b) 0) e)

    all : (b : Bool) → sum_by (λ (y : SignedArc). cond b (once_if (same_arc a y)) 0) xs ≡ cond b (times a xs) 0
    all true = refl
    all false = sum_by_none (λ (y : SignedArc). 0) xs (λ y c. refl)

-- ---- all arcs

last_two : (a : SignedArc) (n : ℕ) → times a (forward n ∷ backward n ∷ []) ≡ once_if (nat_eq a.arc n)
last_two a n = go a.is_reversed refl (cases_eq a.arc n)
  where
    f : times a (forward n ∷ backward n ∷ []) ≡ once_if (same_arc a (forward n)) + times a (backward n ∷ [])
    f = sum_by-cons (λ (y : SignedArc). cond (same_arc a y) 1 0) (forward n) (backward n ∷ [])

    b : times a (backward n ∷ []) ≡ once_if (same_arc a (backward n)) + 0
    b = sum_by-cons (λ (y : SignedArc). cond (same_arc a y) 1 0) (backward n) []

    place : (t : Bool) → a.is_reversed ≡ t → place_of a ≡ cond t (2 * a.arc + 2) (2 * a.arc + 1)
    place t e = ap (λ (s : Bool). cond s (2 * a.arc + 2) (2 * a.arc + 1)) e

    both : (s t : Bool) → same_arc a (forward n) ≡ s → same_arc a (backward n) ≡ t → times a (forward n ∷ backward n ∷ []) ≡ once_if s + once_if t
    both s t e g = let h : times a (forward n ∷ backward n ∷ []) ≡ once_if (same_arc a (forward n)) + once_if (same_arc a (backward n)) = (let ff = f in let bb = b in omega arith) in h ∙ (λ i. once_if (e i) + once_if (g i))

    go : (t : Bool) → a.is_reversed ≡ t → (a.arc ≡ n) ⊎ (a.arc ≡ n → ⊥) → times a (forward n ∷ backward n ∷ []) ≡ once_if (nat_eq a.arc n)
    go true e (inl same) =
        let p = place true e in
        both false true (ne_eqb (place_of a) (2 * n + 1) (λ h. omega arith)) (eq-eqb (place_of a) (2 * n + 2) (omega arith)) ∙ sym (ap once_if (eq-eqb a.arc n same))
    go false e (inl same) =
        let p = place false e in
        both true false (eq-eqb (place_of a) (2 * n + 1) (omega arith)) (ne_eqb (place_of a) (2 * n + 2) (λ h. omega arith)) ∙ sym (ap once_if (eq-eqb a.arc n same))
    go true e (inr other) =
        let p = place true e in
        both false false (ne_eqb (place_of a) (2 * n + 1) (λ h. omega arith)) (ne_eqb (place_of a) (2 * n + 2) (λ h. other (omega arith))) ∙ sym (ap once_if (ne_eqb a.arc n other))
    go false e (inr other) =
        let p = place false e in
        both false false (ne_eqb (place_of a) (2 * n + 1) (λ h. other (omega arith))) (ne_eqb (place_of a) (2 * n + 2) (λ h. omega arith)) ∙ sym (ap once_if (ne_eqb a.arc n other))

pub times_below : (a : SignedArc) (n : ℕ) → times a (signed_below n) ≡ once_if (nat_lt a.arc n)
times_below a zero = sym (ap once_if (le-ltb a.arc 0 (omega arith)))
times_below a (suc n) =
    let split = sum_by-append (λ (y : SignedArc). cond (same_arc a y) 1 0) (signed_below n) (forward n ∷ backward n ∷ []) in
    let low = times_below a n in
    let two = last_two a n in
    let sums : times a (signed_below (suc n)) ≡ once_if (nat_lt a.arc n) + once_if (nat_eq a.arc n) = omega arith in
    sums ∙ elim (cases_lt a.arc n) [
      | inl less ↦ (λ i. once_if (lt-ltb a.arc n less i) + once_if (ne_eqb a.arc n (λ e. omega arith) i)) ∙ sym (ap once_if (lt-ltb a.arc (suc n) (omega arith)))
      | inr more ↦ elim (cases_eq a.arc n) [
        | inl same ↦ (λ i. once_if (le-ltb a.arc n more i) + once_if (eq-eqb a.arc n same i)) ∙ sym (ap once_if (lt-ltb a.arc (suc n) (omega arith)))
        | inr other ↦ (λ i. once_if (le-ltb a.arc n more i) + once_if (ne_eqb a.arc n other i)) ∙ sym (ap once_if (le-ltb a.arc (suc n) (omega arith)))
      ]
    ]

-- ---- the boundary

-- a number that comes first in an ascending list is not later in it
pub not_later : (x f : ℕ) (fs : List ℕ) → ((y : ℕ) → Contains fs y → nat_lt f y ≡ true) → x ≡ f → has nat_eq fs x ≡ false
not_later x f fs up e = list_any_none (nat_eq x) fs (All-from_get_or (λ (y : ℕ). nat_eq x y ≡ false) fs 0 (λ k l. ne_eqb x (get_or fs k 0) (λ same.
    let less = ltb-true f (get_or fs k 0) (up (get_or fs k 0) (Contains-get_or fs k 0 l)) in omega arith)))

module _ (places : List ℕ) (many : ℕ) (inside : List ℕ) (a : SignedArc) where
  at_face : (f : ℕ) → times a (outward_at places many inside f) ≡ once_if (nat_lt a.arc many && (nat_eq (face_left_of places a) f && is_outward places inside a))
  at_face f =
      times-filter a (is_outward places inside) (arcs_with_left places many f)
      ∙ ap (λ (n : ℕ). cond (is_outward places inside a) n 0) (times-filter a (has_left places f) (signed_below many) ∙ ap (λ (n : ℕ). cond (has_left places f a) n 0) (times_below a many))
      ∙ tests (nat_lt a.arc many) (nat_eq (face_left_of places a) f) (is_outward places inside a)
    where
      tests : (s t u : Bool) → cond u (cond t (once_if s) 0) 0 ≡ once_if (s && (t && u))
      tests true true true = refl
      tests true true false = refl
      tests true false true = refl
      tests true false false = refl
      tests false true true = refl
      tests false true false = refl
      tests false false true = refl
      tests false false false = refl

  mapped : (i : ℕ) (xs : List SignedArc) → sum_by (λ (s : Side). once_if (same_arc a s.arc)) (map (side_at i) xs) ≡ times a xs
  mapped i [] = refl
  mapped i (x ∷ xs) =
      let m = sum_by-cons (λ (s : Side). once_if (same_arc a s.arc)) (side_at i x) (map (side_at i) xs) in
      let n = sum_by-cons (λ (y : SignedArc). cond (same_arc a y) 1 0) x xs in
      let r = mapped i xs in
      omega arith

  from_face : (i : ℕ) (fs : List ℕ) → IsAscending nat_lt fs → sum_by (λ (s : Side). once_if (same_arc a s.arc)) (sides_from places many inside i fs) ≡ once_if (nat_lt a.arc many && (has nat_eq fs (face_left_of places a) && is_outward places inside a))
  from_face i [] up = none (nat_lt a.arc many)
    where
      none : (s : Bool) → once_if false ≡ once_if (s && (false && is_outward places inside a))
      none true = refl
      none false = refl
  from_face i (f ∷ fs) up =
      let split = sum_by-append (λ (s : Side). once_if (same_arc a s.arc)) (map (side_at i) (outward_at places many inside f)) (sides_from places many inside (i + 1) fs) in
      let here = mapped i (outward_at places many inside f) ∙ at_face f in
      let rest = from_face (i + 1) fs up.1 in
      let sums : sum_by (λ (s : Side). once_if (same_arc a s.arc)) (sides_from places many inside i (f ∷ fs))
      ≡ once_if (nat_lt a.arc many && (nat_eq (face_left_of places a) f && is_outward places inside a)) + once_if (nat_lt a.arc many && (has nat_eq fs (face_left_of places a) && is_outward places inside a)) = omega arith in
      sums ∙ tests (nat_lt a.arc many) (nat_eq (face_left_of places a) f) (has nat_eq fs (face_left_of places a)) (is_outward places inside a) first
    where
      first : nat_eq (face_left_of places a) f ≡ true → has nat_eq fs (face_left_of places a) ≡ false
      first e = not_later (face_left_of places a) f fs up.0 (eqb-true (face_left_of places a) f e)

      tests : (s t h u : Bool) → (t ≡ true → h ≡ false) → once_if (s && (t && u)) + once_if (s && (h && u)) ≡ once_if (s && ((t || h) && u))
      tests true true true u e = absurd (let f : true ≡ false = e refl in cc)
      tests true true false true e = refl
      tests true true false false e = refl
      tests true false true true e = refl
      tests true false true false e = refl
      tests true false false true e = refl
      tests true false false false e = refl
      tests false true true true e = refl
      tests false true true false e = refl
      tests false true false true e = refl
      tests false true false false e = refl
      tests false false true true e = refl
      tests false false true false e = refl
      tests false false false true e = refl
      tests false false false false e = refl

  -- what is added along the sides of a set: each arc of the boundary is there once
  pub once_along_sides : IsStrictlyIncreasing inside → sum_by (λ (s : Side). once_if (same_arc a s.arc)) (sides_of places many inside) ≡ once_if (is_of_boundary places many inside a)
  once_along_sides up = from_face 0 inside (to_ascending inside up)

-- ---- along edges

pub sum_by-map : {X Y : Type 0} (f : Y → ℕ) (g : X → Y) (xs : List X) → sum_by f (map g xs) ≡ sum_by (λ (x : X). f (g x)) xs
sum_by-map f g xs = fold-map (λ s y. s + f y) g 0 xs
