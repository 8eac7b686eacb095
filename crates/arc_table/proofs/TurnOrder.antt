-- Steps by start, and at one start in turn, are in order.
use Rattle.std.proofs.Common.{rules, ◌≡◌, ◌⊎◌, inl, inr, refl, sym, ap, ◌∙◌, subst, arith, ℕ, ◌<◌, ◌≤◌, Bool, true, false, ◌&&◌, ◌||◌}
use Rattle.std.proofs.Math.IntN.{ℤ, pos, ◌+ℤ◌, ◌-ℤ◌, ◌*ℤ◌, *ℤ_comm}
use Rattle.std.specs.Prelude.{◌≤ℤ◌, ◌<ℤ◌, int_lt, nat_lt, nat_eq, if◌then◌else◌}
use Rattle.std.specs.Cmp.{IsStrictWeakOrder}
use Rattle.std.proofs.lemmas.Bool.{and_from, and_parts, cases_lt, false_from_ne_true}
use Rattle.std.proofs.lemmas.Grind.{common_steps}
use Rattle.plane_algebra.proofs.Order.{order, order_cases}
use Rattle.plane_algebra.proofs.Ring.{ring, ◌≐◌, ◌⊞◌, ◌⊟◌, ◌⊠◌, num}
use Rattle.plane_algebra.proofs.Laws.{zero-mul_ℤ}
use Rattle.plane_algebra.proofs.Sign.{mul-nonneg, mul-nonpos, nonpos_of_mul}
use Rattle.plane_algebra.proofs.Tests.{lt_from, lt_to, or_first, or_second}
use Rattle.plane_model.specs.Points.{GridPoint, Segment, same_int, same_point, is_before, reversed, cross}
use Rattle.plane_model.specs.Arcs.{goes_up}
use Rattle.plane_model.proofs.PointOrder.{clash, point_is, same_int_from, same_int_to, same_point_from, same_point_to, is_before-IsStrictOrder}
use Rattle.arc_table.specs.Around.{half_of, comes_round_first, comes_first}

-- the direction (x, y) is in the upper half, or along the positive x axis
abbrev Up : ℤ → ℤ → Type 0
Up x y = (pos 0 <ℤ y) ⊎ ((y ≡ pos 0) × (pos 0 <ℤ x))

not_low : (x y : ℤ) → Up x y → pos 0 ≤ℤ y
not_low x y (inl h) = omega order
not_low x y (inr h) = let e = h.0 in omega order

times_none : (a b : ℤ) → b ≡ pos 0 → a *ℤ b ≡ pos 0
times_none a b e = ap (λ (z : ℤ). a *ℤ z) e ∙ *ℤ_comm a (pos 0) ∙ zero-mul_ℤ a

three : (ux uy vx vy wx wy : ℤ) → vy *ℤ (ux *ℤ wy -ℤ uy *ℤ wx) ≡ wy *ℤ (ux *ℤ vy -ℤ uy *ℤ vx) +ℤ uy *ℤ (vx *ℤ wy -ℤ vy *ℤ wx)
three = ring 6 (λ ux uy vx vy wx wy. vy ⊠ (ux ⊠ wy ⊟ uy ⊠ wx) ≐ wy ⊠ (ux ⊠ vy ⊟ uy ⊠ vx) ⊞ uy ⊠ (vx ⊠ wy ⊟ vy ⊠ wx)) tt

-- of three directions in the upper half, if none turns left from the one before, the third does not turn left from the
-- first
chain_up : (ux uy vx vy wx wy : ℤ) → Up ux uy → Up vx vy → Up wx wy → (ux *ℤ vy -ℤ uy *ℤ vx) ≤ℤ pos 0 → (vx *ℤ wy -ℤ vy *ℤ wx) ≤ℤ pos 0 → (ux *ℤ wy -ℤ uy *ℤ wx) ≤ℤ pos 0
chain_up ux uy vx vy wx wy hu (inl hv) hw a b =
    let first = mul-nonpos wy (ux *ℤ vy -ℤ uy *ℤ vx) (not_low wx wy hw) a in
    let second = mul-nonpos uy (vx *ℤ wy -ℤ vy *ℤ wx) (not_low ux uy hu) b in
    let sum = three ux uy vx vy wx wy in
    nonpos_of_mul vy (ux *ℤ wy -ℤ uy *ℤ wx) hv (omega order)
chain_up ux uy vx vy wx wy hu (inr hv) hw a b =
    let none = *ℤ_comm vy wx ∙ times_none wx vy hv.0 in
    let level = nonpos_of_mul vx wy hv.1 (omega order) in
    last hw level
  where
    last : Up wx wy → wy ≤ℤ pos 0 → (ux *ℤ wy -ℤ uy *ℤ wx) ≤ℤ pos 0
    last (inl h) level = absurd (omega order)
    last (inr h) level =
        let none = times_none ux wy h.0 in
        let right : pos 0 ≤ℤ wx = (let g = h.1 in omega order) in
        let some = mul-nonneg uy wx (not_low ux uy hu) right in
        omega order

-- ---- steps

abbrev GoesUp : Segment → Type 0
GoesUp s = Up (s.stop.x -ℤ s.start.x) (s.stop.y -ℤ s.start.y)

chain_of_ups : (s t u : Segment) → GoesUp s → GoesUp t → GoesUp u → cross s t ≤ℤ pos 0 → cross t u ≤ℤ pos 0 → cross s u ≤ℤ pos 0
chain_of_ups s t u = chain_up (s.stop.x -ℤ s.start.x) (s.stop.y -ℤ s.start.y) (t.stop.x -ℤ t.start.x) (t.stop.y -ℤ t.start.y) (u.stop.x -ℤ u.start.x) (u.stop.y -ℤ u.start.y)

cross-reversed : (s t : Segment) → cross (reversed s) (reversed t) ≡ cross s t
cross-reversed s t =
    ring 8 (λ a b c d e f g h. (a ⊟ c) ⊠ (f ⊟ h) ⊟ (b ⊟ d) ⊠ (e ⊟ g) ≐ (c ⊟ a) ⊠ (h ⊟ f) ⊟ (d ⊟ b) ⊠ (g ⊟ e)) tt
    s.start.x s.start.y s.stop.x s.stop.y t.start.x t.start.y t.stop.x t.stop.y

cross-swapped : (s t : Segment) → cross s t +ℤ cross t s ≡ pos 0
cross-swapped s t =
    ring 8 (λ a b c d e f g h. ((c ⊟ a) ⊠ (h ⊟ f) ⊟ (d ⊟ b) ⊠ (g ⊟ e)) ⊞ ((g ⊟ e) ⊠ (d ⊟ b) ⊟ (h ⊟ f) ⊠ (c ⊟ a)) ≐ num (pos 0)) tt
    s.start.x s.start.y s.stop.x s.stop.y t.start.x t.start.y t.stop.x t.stop.y

cross-still : (p : GridPoint) (t : Segment) → cross (record { start = p; stop = p }) t ≡ pos 0
cross-still p t =
    ring 6 (λ a b e f g h. (a ⊟ a) ⊠ (h ⊟ f) ⊟ (b ⊟ b) ⊠ (g ⊟ e) ≐ num (pos 0)) tt p.x p.y t.start.x t.start.y t.stop.x t.stop.y

still : (s t : Segment) → s.start ≡ s.stop → cross s t ≡ pos 0
still s t e = subst (λ (q : GridPoint). cross (record { start = s.start; stop = q }) t ≡ pos 0) e (cross-still s.start t)

-- ---- the halves

difference_up : (a b : ℤ) → a <ℤ b → pos 0 <ℤ (b -ℤ a)
difference_up a b h = omega order

difference_none : (a b : ℤ) → a ≡ b → b -ℤ a ≡ pos 0
difference_none a b e = omega order

up_from : (s : Segment) → goes_up s ≡ true → GoesUp s
up_from s e = go (int_lt s.start.y s.stop.y) (same_int s.start.y s.stop.y) (int_lt s.start.x s.stop.x) refl refl refl e
  where
    go : (a b c : Bool) → int_lt s.start.y s.stop.y ≡ a → same_int s.start.y s.stop.y ≡ b → int_lt s.start.x s.stop.x ≡ c → (a || (b && c)) ≡ true → GoesUp s
    go true b c f g h e = inl (difference_up s.start.y s.stop.y (lt_from s.start.y s.stop.y f))
    go false true true f g h e = inr (difference_none s.start.y s.stop.y (same_int_from s.start.y s.stop.y g), difference_up s.start.x s.stop.x (lt_from s.start.x s.stop.x h))
    go false true false f g h e = absurd (cc)
    go false false c f g h e = absurd (cc)

not_less : (a b : ℤ) → int_lt a b ≡ false → b ≤ℤ a
not_less a b e = search rules

is_not_less : (a b : ℤ) → b ≤ℤ a → int_lt a b ≡ false
is_not_less a b h = search rules

down_from : (s : Segment) → goes_up s ≡ false → same_point s.start s.stop ≡ false → GoesUp (reversed s)
down_from s e f =
    order_cases s.start.y s.stop.y (λ h. order_cases s.stop.y s.start.y (λ k. level (omega order)) (λ k. absurd (rises k)))
    (λ h. inl (difference_up s.stop.y s.start.y h))
  where
    rises : s.start.y <ℤ s.stop.y → ⊥
    rises k = clash (goes_up s) (or_first (int_lt s.start.y s.stop.y) (same_int s.start.y s.stop.y && int_lt s.start.x s.stop.x) (lt_to s.start.y s.stop.y k)) e

    level : s.start.y ≡ s.stop.y → GoesUp (reversed s)
    level g =
        order_cases s.start.x s.stop.x
        (λ h. order_cases s.stop.x s.start.x
        (λ k. absurd (clash (same_point s.start s.stop) (same_point_to s.start s.stop (point_is s.start s.stop (omega order) g)) f))
        (λ k. absurd (clash (goes_up s) (or_second (int_lt s.start.y s.stop.y) (same_int s.start.y s.stop.y && int_lt s.start.x s.stop.x)
        (and_from (same_int s.start.y s.stop.y) (int_lt s.start.x s.stop.x) (same_int_to s.start.y s.stop.y g) (lt_to s.start.x s.stop.x k))) e)))
        (λ h. inr (difference_none s.stop.y s.start.y (sym g), difference_up s.stop.x s.start.x h))

abbrev Kind : Segment → Type 0
Kind s = ((half_of s ≡ 0) × GoesUp s) ⊎ (((half_of s ≡ 1) × GoesUp (reversed s)) ⊎ ((half_of s ≡ 2) × (s.start ≡ s.stop)))

kind : (s : Segment) → Kind s
kind s = go (goes_up s) (same_point s.start s.stop) refl refl
  where
    go : (a b : Bool) → goes_up s ≡ a → same_point s.start s.stop ≡ b → Kind s
    go true b f g = inl (ap (λ (t : Bool). if t then 0 else if same_point s.start s.stop then 2 else 1) f, up_from s f)
    go false true f g = inr (inr ((λ i. if f i then 0 else if g i then 2 else 1), same_point_from s.start s.stop g))
    go false false f g = inr (inl ((λ i. if f i then 0 else if g i then 2 else 1), down_from s f g))

other : {G : Type 0} (m n k l : ℕ) → m ≡ n → m ≡ k → n ≡ l → (k ≡ l → ⊥) → G
other m n k l e f g h = absurd (h (sym f ∙ e ∙ g))

module _ (s t u : Segment) (st : half_of s ≡ half_of t) (tu : half_of t ≡ half_of u) (a : cross s t ≤ℤ pos 0) (b : cross t u ≤ℤ pos 0) where
  chain_within : Kind s → Kind t → Kind u → cross s u ≤ℤ pos 0
  chain_within (inl i) (inl j) (inl k) = chain_of_ups s t u i.1 j.1 k.1 a b
  chain_within (inr (inl i)) (inr (inl j)) (inr (inl k)) =
      let f = cross-reversed s t in
      let g = cross-reversed t u in
      let h = cross-reversed s u in
      let r = chain_of_ups (reversed s) (reversed t) (reversed u) i.1 j.1 k.1 (subst (λ (z : ℤ). z ≤ℤ pos 0) (sym f) a) (subst (λ (z : ℤ). z ≤ℤ pos 0) (sym g) b) in
      subst (λ (z : ℤ). z ≤ℤ pos 0) h r
  chain_within (inr (inr i)) j k = subst (λ (z : ℤ). z ≤ℤ pos 0) (sym (still s u i.1)) (omega order)
  chain_within (inl i) (inr (inl j)) k = other (half_of s) (half_of t) 0 1 st i.0 j.0 (λ e. omega arith)
  chain_within (inl i) (inr (inr j)) k = other (half_of s) (half_of t) 0 2 st i.0 j.0 (λ e. omega arith)
  chain_within (inl i) (inl j) (inr (inl k)) = other (half_of t) (half_of u) 0 1 tu j.0 k.0 (λ e. omega arith)
  chain_within (inl i) (inl j) (inr (inr k)) = other (half_of t) (half_of u) 0 2 tu j.0 k.0 (λ e. omega arith)
  chain_within (inr (inl i)) (inl j) k = other (half_of s) (half_of t) 1 0 st i.0 j.0 (λ e. omega arith)
  chain_within (inr (inl i)) (inr (inr j)) k = other (half_of s) (half_of t) 1 2 st i.0 j.0 (λ e. omega arith)
  chain_within (inr (inl i)) (inr (inl j)) (inl k) = other (half_of t) (half_of u) 1 0 tu j.0 k.0 (λ e. omega arith)
  chain_within (inr (inl i)) (inr (inl j)) (inr (inr k)) = other (half_of t) (half_of u) 1 2 tu j.0 k.0 (λ e. omega arith)

-- ---- in turn

ahead_from : (m n : ℕ) (c : Bool) → (nat_lt m n || (nat_eq m n && c)) ≡ true → (m < n) ⊎ ((m ≡ n) × (c ≡ true))
ahead_from m n c e = elim (cases_lt m n) [ inl l ↦ inl l | inr l ↦ inr (grind (arith, common_steps), grind (arith, common_steps)) ]

after_from : (m n : ℕ) (c : Bool) → (nat_lt m n || (nat_eq m n && c)) ≡ false → (n ≤ m) × (m ≡ n → c ≡ false)
after_from m n c e = (grind (arith, common_steps), λ i. grind (arith, common_steps))

after_to : (m n : ℕ) (c : Bool) → n ≤ m → (m ≡ n → c ≡ false) → (nat_lt m n || (nat_eq m n && c)) ≡ false
after_to m n c l f = grind (arith, common_steps)

round_once : (s t : Segment) → comes_round_first s t ≡ true → comes_round_first t s ≡ false
round_once s t e = elim (ahead_from (half_of s) (half_of t) (int_lt (pos 0) (cross s t)) e) [
  | inl l ↦ after_to (half_of t) (half_of s) (int_lt (pos 0) (cross t s)) (omega arith) (λ f. absurd (omega arith))
  | inr r ↦ after_to (half_of t) (half_of s) (int_lt (pos 0) (cross t s)) (let f = r.0 in omega arith)
      (λ f. is_not_less (pos 0) (cross t s) (let g = lt_from (pos 0) (cross s t) r.1 in let h = cross-swapped s t in omega order))
]

round_chain : (s t u : Segment) → comes_round_first s t ≡ false → comes_round_first t u ≡ false → comes_round_first s u ≡ false
round_chain s t u e f =
    let a = after_from (half_of s) (half_of t) (int_lt (pos 0) (cross s t)) e in
    let b = after_from (half_of t) (half_of u) (int_lt (pos 0) (cross t u)) f in
    let l = a.0 in
    let m = b.0 in
    after_to (half_of s) (half_of u) (int_lt (pos 0) (cross s u)) (omega arith)
    (λ g.
    let st : half_of s ≡ half_of t = omega arith in
    let tu : half_of t ≡ half_of u = omega arith in
    is_not_less (pos 0) (cross s u) (chain_within s t u st tu (not_less (pos 0) (cross s t) (a.1 st)) (not_less (pos 0) (cross t u) (b.1 tu)) (kind s) (kind t) (kind u)))

-- ---- by start, and in turn

first_from : (s t : Segment) → comes_first s t ≡ true → (is_before s.start t.start ≡ true) ⊎ ((s.start ≡ t.start) × (comes_round_first s t ≡ true))
first_from s t e = go (is_before s.start t.start) refl
  where
    go : (b : Bool) → is_before s.start t.start ≡ b → (is_before s.start t.start ≡ true) ⊎ ((s.start ≡ t.start) × (comes_round_first s t ≡ true))
    go true f = inl f
    go false f = (let both = and_parts (same_point s.start t.start) (comes_round_first s t) ((λ i. sym f i || (same_point s.start t.start && comes_round_first s t)) ∙ e) in inr (same_point_from s.start t.start both.0, both.1))

pub not_first_from : (s t : Segment) → comes_first s t ≡ false → (is_before s.start t.start ≡ false) × (s.start ≡ t.start → comes_round_first s t ≡ false)
not_first_from s t e = (grind (arith, common_steps), λ f. (let g = same_point_to s.start t.start f in grind (arith, common_steps)))

not_first_to : (s t : Segment) → is_before s.start t.start ≡ false → (s.start ≡ t.start → comes_round_first s t ≡ false) → comes_first s t ≡ false
not_first_to s t l f = grind (arith, common_steps, same_point_from)

pub not_back : (p q : GridPoint) → is_before p q ≡ true → is_before q p ≡ false
not_back p q h = search rules

pub not_before_chain : (p q r : GridPoint) → is_before p q ≡ false → is_before q r ≡ false → is_before p r ≡ false
not_before_chain p q r a b = grind (arith, common_steps)

pub later_not_first : (s t : Segment) → is_before s.start t.start ≡ true → comes_first t s ≡ false
later_not_first s t h = not_first_to t s (not_back s.start t.start h) (λ f. absurd (is_before-IsStrictOrder.irreflexive t.start (subst (λ (x : GridPoint). is_before x t.start ≡ true) (sym f) h)))

first_once : (s t : Segment) → comes_first s t ≡ true → comes_first t s ≡ false
first_once s t e = elim (first_from s t e) [
  | inl h ↦ later_not_first s t h
  | inr r ↦ not_first_to t s (false_from_ne_true (is_before t.start s.start) (λ h. is_before-IsStrictOrder.irreflexive t.start (subst (λ (x : GridPoint). is_before t.start x ≡ true) r.0 h))) (λ f. round_once s t r.1)
]

first_chain : (s t u : Segment) → comes_first s t ≡ false → comes_first t u ≡ false → comes_first s u ≡ false
first_chain s t u e f =
    let a = not_first_from s t e in
    let b = not_first_from t u f in
    not_first_to s u (not_before_chain s.start t.start u.start a.0 b.0)
    (λ g.
    let back : is_before t.start s.start ≡ false = subst (λ (x : GridPoint). is_before t.start x ≡ false) (sym g) b.0 in
    let st : s.start ≡ t.start = is_before-IsStrictOrder.total s.start t.start a.0 back in
    round_chain s t u (a.1 st) (b.1 (sym st ∙ g)))

pub comes_first-IsStrictWeakOrder : {X : Type 0} (key : X → Segment) → IsStrictWeakOrder (λ (x : X) (y : X). comes_first (key x) (key y))
comes_first-IsStrictWeakOrder key = record {
  one_way = λ x y e. first_once (key x) (key y) e;
  chain = λ x y z e f. first_chain (key x) (key y) (key z) e f;
}
