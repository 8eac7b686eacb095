-- The way on from a step, along a path whose vertices lead on.
use Rattle.std.proofs.Common.{◌≡◌, inl, inr, refl, sym, ap, ◌∙◌, arith, ℕ, zero, suc, ◌+◌, ◌<◌, ◌≤◌, Bool, true, false, cond, not, ◌&&◌, ◌||◌, List, [], ◌∷◌, ◌++◌, length, All, Contains, append-nil, append_assoc}
use Rattle.std.proofs.lemmas.Bool.{false_from_ne_true}
use Rattle.std.proofs.lemmas.List.Elements.{All-head, All-tail, Contains-append_right}
use Rattle.lists.specs.Lists.{least_of, list_before, place_of, turned}
use Rattle.lists.proofs.Ascending.{IsStrictOrder}
use Rattle.lists.proofs.Members.{Contains-cases, Contains-head, Contains-later, Contains-nil}
use Rattle.plane_model.specs.Points.{GridPoint, Segment, Path, is_before, same_point}
use Rattle.plane_model.specs.Arcs.{begun_at_least, next_vertex, run_from, way_on}
use Rattle.plane_model.proofs.PointOrder.{is_before-IsStrictOrder, same_point_to}
use Rattle.arc_table.specs.Direction.{point_at}

-- ---- runs

module _ (node : GridPoint → Bool) (S : List Segment) (start : GridPoint) where
  abbrev stops : GridPoint → Bool
  stops q = node q || same_point q start

  -- from p on each vertex leads to the next, and the last one stops
  abbrev Leads : GridPoint → Path → Type 0
  Leads p [] = ⊥
  Leads p (q ∷ []) = stops q ≡ true
  Leads p (q ∷ r ∷ rest) = (stops q ≡ false) × (next_vertex S p q ≡ r) × Leads q (r ∷ rest)

  way_led : (n : ℕ) (p q : GridPoint) (rest : Path) → length rest ≤ n → Leads p (q ∷ rest) → way_on node S n start p q ≡ q ∷ rest
  way_led zero p q [] few h = refl
  way_led zero p q (r ∷ rest) few h = absurd (omega arith)
  way_led (suc n) p q [] few h = ap (λ (b : Bool). q ∷ (elim b as (λ x. Path) [ true ↦ [] | false ↦ way_on node S n start q (next_vertex S p q) ])) h
  way_led (suc n) p q (r ∷ rest) few h =
      ap (λ (b : Bool). q ∷ (elim b as (λ x. Path) [ true ↦ [] | false ↦ way_on node S n start q (next_vertex S p q) ])) h.0
      ∙ ap (λ (x : GridPoint). q ∷ way_on node S n start q x) h.1
      ∙ ap (λ (xs : Path). q ∷ xs) (way_led n q r rest (omega arith) h.2)

  leads_at : (p q : GridPoint) (rest : Path) → ((k : ℕ) → suc (suc k) < length (p ∷ q ∷ rest) → (stops (point_at (p ∷ q ∷ rest) (suc k)) ≡ false) × (next_vertex S (point_at (p ∷ q ∷ rest) k) (point_at (p ∷ q ∷ rest) (suc k)) ≡ point_at (p ∷ q ∷ rest) (suc (suc k)))) →
      stops (point_at (p ∷ q ∷ rest) (suc (length rest))) ≡ true → Leads p (q ∷ rest)
  leads_at p q [] facts last = last
  leads_at p q (r ∷ rest) facts last = ((facts 0 (omega arith)).0, (facts 0 (omega arith)).1, leads_at q r rest (λ k l. facts (suc k) (omega arith)) last)

-- what a path must be so that it is run along
pub record IsRun (node : GridPoint → Bool) (S : List Segment) (W : Path) : Type 0 where
  pub long : 1 < length W
  pub few : length W ≤ length S + 2
  pub goes : (k : ℕ) → suc (suc k) < length W → ((node (point_at W (suc k)) || same_point (point_at W (suc k)) (point_at W 0)) ≡ false) × (next_vertex S (point_at W k) (point_at W (suc k)) ≡ point_at W (suc (suc k)))
  pub stops_at : (k : ℕ) → suc k ≡ length W → (node (point_at W k) || same_point (point_at W k) (point_at W 0)) ≡ true

pub run_is : (node : GridPoint → Bool) (S : List Segment) (W : Path) → IsRun node S W → run_from node S (point_at W 0) (point_at W 1) ≡ W
run_is node S [] h = let l = h.long in absurd (omega arith)
run_is node S (p ∷ []) h = let l = h.long in absurd (omega arith)
run_is node S (p ∷ q ∷ rest) h =
    let l = h.few in
    ap (λ (xs : Path). p ∷ xs) (way_led node S p (length S) p q rest (omega arith) (leads_at node S p p q rest h.goes (h.stops_at (suc (length rest)) refl)))

-- ---- lists begun elsewhere

pub turned_whole : {A : Type 0} (xs ys : List A) → turned (length xs) (xs ++ ys) ≡ ys ++ xs
turned_whole [] [] = refl
turned_whole [] (y ∷ ys) = sym (append-nil (y ∷ ys))
turned_whole (x ∷ xs) ys =
    ap (turned (length xs)) (append_assoc xs ys (x ∷ [])) ∙ turned_whole xs (ys ++ x ∷ []) ∙ append_assoc ys (x ∷ []) xs

place_after : {A : Type 0} (test : A → Bool) (xs ys : List A) (z : A) → All (λ x. test x ≡ false) xs → test z ≡ true → place_of test (xs ++ z ∷ ys) ≡ length xs
place_after test [] ys z none e = λ i. cond (e i) 0 (suc (place_of test ys))
place_after test (x ∷ xs) ys z none e =
    (λ i. cond (All-head (λ x. test x ≡ false) x xs none i) 0 (suc (place_of test (xs ++ z ∷ ys))))
    ∙ ap suc (place_after test xs ys z (All-tail (λ x. test x ≡ false) x xs none) e)

module _ {A : Type 0} (before : A → A → Bool) (order : IsStrictOrder before) where
  pub least_in : (d x : A) (xs : List A) → Contains (x ∷ xs) (least_of before d (x ∷ xs))
  least_in d x [] = Contains-head x []
  least_in d x (y ∷ ys) = go (before (least_of before d (y ∷ ys)) x) (least_in d y ys)
    where
      go : (b : Bool) → Contains (y ∷ ys) (least_of before d (y ∷ ys)) → Contains (x ∷ y ∷ ys) (cond b (least_of before d (y ∷ ys)) x)
      go true c = Contains-later x (y ∷ ys) (least_of before d (y ∷ ys)) c
      go false c = Contains-head x (y ∷ ys)

  -- an element that none comes before is the least
  least_is : (d : A) (xs : List A) (x : A) → Contains xs x → ((y : A) → Contains xs y → before y x ≡ false) → least_of before d xs ≡ x
  least_is d [] x c low = Contains-nil x c
  least_is d (y ∷ []) x c low = elim (Contains-cases y [] x c) [ inl e ↦ e | inr n ↦ Contains-nil x n ]
  least_is d (y ∷ z ∷ xs) x c low = elim (Contains-cases y (z ∷ xs) x c) [
    | inl e ↦ ap (λ (b : Bool). cond b (least_of before d (z ∷ xs)) y) (ap (before (least_of before d (z ∷ xs))) e ∙ low (least_of before d (z ∷ xs)) (Contains-later y (z ∷ xs) (least_of before d (z ∷ xs)) (least_in d z xs))) ∙ e
    | inr n ↦
        (let m : least_of before d (z ∷ xs) ≡ x = least_is d (z ∷ xs) x n (λ w k. low w (Contains-later y (z ∷ xs) w k)) in
        ap (λ (v : A). cond (before v y) v y) m ∙ go (before x y) refl)
  ]
    where
      go : (b : Bool) → before x y ≡ b → cond (before x y) x y ≡ x
      go true e = ap (λ (b : Bool). cond b x y) e
      go false e = ap (λ (b : Bool). cond b x y) e ∙ sym (order.total x y e (low y (Contains-head y (z ∷ xs))))

-- a closed run begun at its least vertex
pub begun_is : (p x z : GridPoint) (A B : Path) → x ≡ z → All (λ y. same_point z y ≡ false) B → ((y : GridPoint) → Contains (B ++ z ∷ A) y → is_before y z ≡ false) → begun_at_least (p ∷ (B ++ z ∷ A)) ≡ x ∷ (A ++ (B ++ z ∷ []))
begun_is p x z A B same none low =
    (λ i. turned (place_of (same_point (least i)) (B ++ z ∷ A)) (B ++ z ∷ A) ++ least i ∷ [])
    ∙ ap (λ (n : ℕ). turned n (B ++ z ∷ A) ++ z ∷ []) (place_after (same_point z) B A z none (same_point_to z z refl))
    ∙ ap (λ (xs : Path). xs ++ z ∷ []) (turned_whole B (z ∷ A))
    ∙ ap (λ (xs : Path). z ∷ xs) (append_assoc A B (z ∷ []))
    ∙ ap (λ (y : GridPoint). y ∷ (A ++ (B ++ z ∷ []))) (sym same)
  where
    there : Contains (B ++ z ∷ A) z
    there = Contains-append_right B (z ∷ A) z (Contains-head z A)

    least : least_of is_before p (B ++ z ∷ A) ≡ z
    least = least_is is_before is_before-IsStrictOrder p (B ++ z ∷ A) z there low

-- ---- the direction

-- of two paths the one whose first vertices come first
pub first_apart : (p q : GridPoint) (P Q : Path) → is_before p q ≡ true → (list_before is_before (p ∷ P) (q ∷ Q) ≡ true) × (list_before is_before (q ∷ Q) (p ∷ P) ≡ false)
first_apart p q P Q e = (
  ap (λ (b : Bool). b || (not (is_before q p) && list_before is_before P Q)) e,
  (λ i. back i || (not (e i) && list_before is_before Q P)),
)
  where
    back : is_before q p ≡ false
    back = false_from_ne_true (is_before q p) (λ f. is_before-IsStrictOrder.irreflexive p (is_before-IsStrictOrder.trans p q p e f))

pub first_alike : (p q : GridPoint) (P Q : Path) → p ≡ q → list_before is_before (p ∷ P) (q ∷ Q) ≡ list_before is_before P Q
first_alike p q P Q e = ap (λ (r : GridPoint). is_before p r || (not (is_before r p) && list_before is_before P Q)) (sym e) ∙ (λ i. itself i || (not (itself i) && list_before is_before P Q))
  where
    itself : is_before p p ≡ false
    itself = false_from_ne_true (is_before p p) (is_before-IsStrictOrder.irreflexive p)
