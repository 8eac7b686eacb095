-- What is added along rings, and along the spans that they are.
use Rattle.std.proofs.Common.{◌≡◌, refl, sym, ap, ◌∙◌, subst, arith, ℕ, zero, suc, ◌+◌, ◌-◌, ◌<◌, ◌≤◌, Bool, true, false, cond, List, [], ◌∷◌, ◌++◌, length, get_or, set, take, drop, Result, Ok, Err, OnOk, All}
use Rattle.std.specs.List.{sum_by}
use Rattle.std.proofs.lemmas.List.Elements.{All-push, All-weaker}
use Rattle.std.proofs.lemmas.List.{length_push, drop-drop, drop_all}
use Rattle.std.proofs.lemmas.List.Sums.{sum_by-cons, sum_by-take-drop}
use Rattle.ring_trace.specs.declared.simple_rings.RingSpan.{RingSpan}
use Rattle.ring_trace.specs.Rings.{sum_where, AreTiled, IsSpan}

-- ---- edges gone along

pub sum_where-set : (g : ℕ → ℕ) (k i : ℕ) (bs : List Bool) → i < length bs → get_or bs i false ≡ false → sum_where g k (set bs i true) ≡ sum_where g k bs + g (k + i)
sum_where-set g k i [] l e = absurd (omega arith)
sum_where-set g k zero (b ∷ bs) l e =
    let f : cond b (g k) 0 ≡ 0 = ap (λ (t : Bool). cond t (g k) 0) e in
    let m : g (k + 0) ≡ g k = ap g (let n : k + 0 ≡ k = omega arith in n) in
    omega arith
sum_where-set g k (suc i) (b ∷ bs) l e =
    let r = sum_where-set g (k + 1) i bs (omega arith) e in
    let m : g (k + 1 + i) ≡ g (k + suc i) = ap g (let n : k + 1 + i ≡ k + suc i = omega arith in n) in
    omega arith

pub sum_where-none : (g : ℕ → ℕ) (k : ℕ) (bs : List Bool) → ((i : ℕ) → i < length bs → get_or bs i false ≡ false) → sum_where g k bs ≡ 0
sum_where-none g k [] h = refl
sum_where-none g k (b ∷ bs) h =
    let f : cond b (g k) 0 ≡ 0 = ap (λ (t : Bool). cond t (g k) 0) (h 0 (omega arith)) in
    let r = sum_where-none g (k + 1) bs (λ i l. h (suc i) (omega arith)) in
    omega arith

pub sum_where-all : {X : Type 0} (g : ℕ → ℕ) (G : X → ℕ) (k : ℕ) (bs : List Bool) (xs : List X) → length bs ≡ length xs → ((i : ℕ) → i < length bs → get_or bs i false ≡ true) → ((i : ℕ) (d : X) → i < length xs → g (k + i) ≡ G (get_or xs i d)) →
    sum_where g k bs ≡ sum_by G xs
sum_where-all g G k [] [] e all is = refl
sum_where-all g G k [] (x ∷ xs) e all is = absurd (omega arith)
sum_where-all g G k (b ∷ bs) [] e all is = absurd (omega arith)
sum_where-all g G k (b ∷ bs) (x ∷ xs) e all is =
    let f : cond b (g k) 0 ≡ g k = ap (λ (t : Bool). cond t (g k) 0) (all 0 (omega arith)) in
    let m : g (k + 0) ≡ g k = ap g (let n : k + 0 ≡ k = omega arith in n) in
    let first = is 0 x (omega arith) in
    let r = sum_where-all g G (k + 1) bs xs (omega arith) (λ i l. all (suc i) (omega arith)) (λ i d l.
    ap g (let n : k + 1 + i ≡ k + suc i = omega arith in n) ∙ is (suc i) d (omega arith)) in
    let s = sum_by-cons G x xs in
    omega arith

-- ---- spans

pub tiled_more : (from mid end : ℕ) (spans : List RingSpan) (s : RingSpan) → AreTiled from spans mid → s.begin ≡ mid → s.begin ≤ s.end → s.end ≡ end → AreTiled from (spans ++ s ∷ []) end
tiled_more from mid end [] s h b l e = (b ∙ sym h, l, e)
tiled_more from mid end (t ∷ spans) s h b l e = (h.0, h.1, tiled_more t.end mid end spans s h.2 b l e)

-- the first part of what is left
pub sum_by_parts : (g : ℕ → ℕ) (xs : List ℕ) (a b : ℕ) → a ≤ b → sum_by g (take (b - a) (drop a xs)) + sum_by g (drop b xs) ≡ sum_by g (drop a xs)
sum_by_parts g xs a b l =
    let d : drop (b - a) (drop a xs) ≡ drop b xs = drop-drop (b - a) a xs ∙ ap (λ (n : ℕ). drop n xs) (let e : a + (b - a) ≡ b = omega arith in e) in
    let s = sum_by-take-drop g (drop a xs) (b - a) in
    let t = ap (sum_by g) d in
    omega arith

pub sum_tiled : (g : ℕ → ℕ) (xs : List ℕ) (from : ℕ) (spans : List RingSpan) → AreTiled from spans (length xs) → sum_by (λ (s : RingSpan). sum_by g (take (s.end - s.begin) (drop s.begin xs))) spans ≡ sum_by g (drop from xs)
sum_tiled g xs from [] h = sym (ap (sum_by g) (drop_all from xs (omega arith)))
sum_tiled g xs from (s ∷ spans) h =
    let c = sum_by-cons (λ (t : RingSpan). sum_by g (take (t.end - t.begin) (drop t.begin xs))) s spans in
    let r = sum_tiled g xs s.end spans h.2 in
    let p = sum_by_parts g xs s.begin s.end h.1 in
    let f = ap (λ (n : ℕ). sum_by g (drop n xs)) h.0 in
    omega arith

-- two parts of a span
pub sum_halves : (g : ℕ → ℕ) (xs : List ℕ) (begin first end : ℕ) → begin ≤ first → first ≤ end →
    sum_by g (take (end - first) (drop first xs)) + sum_by g (take (first - begin) (drop begin xs)) ≡ sum_by g (take (end - begin) (drop begin xs))
sum_halves g xs begin first end l m =
    let a = sum_by_parts g xs begin first l in
    let b = sum_by_parts g xs first end m in
    let c = sum_by_parts g xs begin end (omega arith) in
    omega arith

pub along_none : (g : ℕ → ℕ) (xs : List ℕ) (begin end : ℕ) → end ≤ begin → sum_by g (take (end - begin) (drop begin xs)) ≡ 0
along_none g xs begin end l = ap (λ (n : ℕ). sum_by g (take n (drop begin xs))) (let e : end - begin ≡ 0 = omega arith in e)

-- ---- results

pub on_ok_both : {T E : Type 0} (P Q : Type 0) (r : Result T E) → OnOk r P → OnOk r Q → OnOk r (P × Q)
on_ok_both P Q (Ok x) p q = (p, q)
on_ok_both P Q (Err e) p q = tt

-- ---- edges from the way to the rings

abbrev pub AreBelow : ℕ → List ℕ → Type 0
AreBelow n xs = All (λ k. k < n) xs

pub whole_pushed : (n : ℕ) (edges more : List ℕ) (spans : List RingSpan) (e : ℕ) → more ≡ edges ++ e ∷ [] → e < n → AreBelow n edges → All (IsSpan (length edges)) spans → AreBelow n more × All (IsSpan (length more)) spans
whole_pushed n edges more spans e is l below within =
    let size : length more ≡ length edges + 1 = ap (λ (xs : List ℕ). length xs) is ∙ length_push edges e in (
      subst (λ (xs : List ℕ). All (λ k. k < n) xs) (sym is) (All-push (λ k. k < n) edges e below l),
      All-weaker (IsSpan (length edges)) (IsSpan (length more)) (λ s h. record { ordered = h.ordered; within = (let w = h.within in omega arith) }) spans within,
    )
