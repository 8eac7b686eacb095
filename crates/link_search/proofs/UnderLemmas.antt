-- Determinants of grid points, and the order of links just right of an abscissa.
use Rattle.std.proofs.Common.{◌≡◌, ◌⊎◌, zero, suc, refl, sym, ap, ◌∙◌, subst, arith, Bool, true, false, cond, ◌&&◌, ◌||◌, ℤ, pos, negsuc, ◌+ℤ◌, ◌-ℤ◌, ◌*ℤ◌, neg_ℤ, inl, inr}
use Rattle.std.specs.Prelude.{◌<ℤ◌, ◌≤ℤ◌, int_lt, int_le}
use Rattle.std.proofs.lemmas.Int.{ints}
use Rattle.std.proofs.lemmas.Bool.{and_parts}
use Rattle.plane_algebra.proofs.Ring.{ring, ◌⊞◌, ◌⊟◌, ◌⊠◌, ⊖◌, num, ◌≐◌}
use Rattle.plane_algebra.proofs.Sign.{mul-positive, mul-nonneg, mul-nonpos, nonneg_of_mul, nonpos_of_mul, zero_or_less}
use Rattle.plane_algebra.proofs.Tests.{lt_to}
use Rattle.plane_model.specs.Points.{GridPoint, Segment, at, step_x, turn}
use Rattle.plane_model.specs.Parity.{is_over}
use Rattle.plane_model.specs.Below.{rise, rises, is_under, is_zero}
use Rattle.link_search.specs.Parting.{later, earlier, runs_over}

-- the determinant of two steps from the start of a link
pub turn_at : (a b p : GridPoint) → turn (at a) (at b) (at p) ≡ (b.x -ℤ a.x) *ℤ (p.y -ℤ a.y) -ℤ (b.y -ℤ a.y) *ℤ (p.x -ℤ a.x)
turn_at a b p = ring 6 (λ ax ay bx by px py. (ay ⊠ num (pos 1) ⊟ by ⊠ num (pos 1)) ⊠ px ⊞ (bx ⊠ num (pos 1) ⊟ ax ⊠ num (pos 1)) ⊠ py ⊞ (ax ⊠ by ⊟ ay ⊠ bx) ⊠ num (pos 1)
    ≐ (bx ⊟ ax) ⊠ (py ⊟ ay) ⊟ (by ⊟ ay) ⊠ (px ⊟ ax)) tt a.x a.y b.x b.y p.x p.y

pub step_at : (a b : GridPoint) → step_x (at a) (at b) ≡ b.x -ℤ a.x
step_at a b = ring 2 (λ ax bx. bx ⊠ num (pos 1) ⊟ ax ⊠ num (pos 1) ≐ bx ⊟ ax) tt a.x b.x

pub le_step : (a b : GridPoint) → int_le b.x a.x ≡ int_le (step_x (at a) (at b)) (pos 0)
le_step a b = moved a.x b.x ∙ ap (λ (d : ℤ). int_le d (pos 0)) (sym (step_at a b))
  where
    moved : (x y : ℤ) → int_le y x ≡ int_le (y -ℤ x) (pos 0)
    moved x y = go (int_le y x) (int_le (y -ℤ x) (pos 0)) refl refl
      where
        go : (a b : Bool) → int_le y x ≡ a → int_le (y -ℤ x) (pos 0) ≡ b → int_le y x ≡ int_le (y -ℤ x) (pos 0)
        go true true f g = f ∙ sym g
        go false false f g = f ∙ sym g
        go true false f g = absurd (omega (arith, ints))
        go false true f g = absurd (omega (arith, ints))

pub lt_step : (a b : GridPoint) → int_lt a.x b.x ≡ int_lt (pos 0) (step_x (at a) (at b))
lt_step a b = moved a.x b.x ∙ ap (λ (d : ℤ). int_lt (pos 0) d) (sym (step_at a b))
  where
    moved : (x y : ℤ) → int_lt x y ≡ int_lt (pos 0) (y -ℤ x)
    moved x y = go (int_lt x y) (int_lt (pos 0) (y -ℤ x)) refl refl
      where
        go : (a b : Bool) → int_lt x y ≡ a → int_lt (pos 0) (y -ℤ x) ≡ b → int_lt x y ≡ int_lt (pos 0) (y -ℤ x)
        go true true f g = f ∙ sym g
        go false false f g = f ∙ sym g
        go true false f g = absurd (omega (arith, ints))
        go false true f g = absurd (omega (arith, ints))

pub over_is : (p : GridPoint) (l : Segment) → is_over (at p) l ≡ (int_le l.start.x p.x && int_lt p.x l.stop.x)
over_is p l = sym (λ i. le_step p l.start i && lt_step p l.stop i)

-- ---- signs of sums of products

less_by : (d a : ℤ) → pos 0 <ℤ d → (d *ℤ a) <ℤ pos 0 → a <ℤ pos 0
less_by d a h l = elim (zero_or_less a) [
  | inl k ↦ (let m = mul-nonneg d a (nonneg d h) k in absurd (omega (arith, ints)))
  | inr k ↦ k
]
  where
    nonneg : (d : ℤ) → pos 0 <ℤ d → pos 0 ≤ℤ d
    nonneg d h = omega (arith, ints)

times_less : (p b : ℤ) → pos 0 <ℤ p → b <ℤ pos 0 → (p *ℤ b) <ℤ pos 0
times_less p b h l = elim (zero_or_less (p *ℤ b)) [
  | inl k ↦ (let m = nonneg_of_mul p b h k in absurd (omega (arith, ints)))
  | inr k ↦ k
]

weak : (d : ℤ) → pos 0 <ℤ d → pos 0 ≤ℤ d
weak d h = omega (arith, ints)

module _ (d a b c p q : ℤ) (hd : pos 0 <ℤ d) (hp : pos 0 <ℤ p) (hq : pos 0 <ℤ q) (e : d *ℤ a ≡ p *ℤ b +ℤ q *ℤ c) where
  less_first : b <ℤ pos 0 → c ≤ℤ pos 0 → a <ℤ pos 0
  less_first h k = less_by d a hd (let x = times_less p b hp h in let y = mul-nonpos q c (weak q hq) k in omega (arith, ints))

  less_second : b ≤ℤ pos 0 → c <ℤ pos 0 → a <ℤ pos 0
  less_second h k = less_by d a hd (let x = times_less q c hq k in let y = mul-nonpos p b (weak p hp) h in omega (arith, ints))

  nonneg_sum : pos 0 ≤ℤ b → pos 0 ≤ℤ c → pos 0 ≤ℤ a
  nonneg_sum h k = nonneg_of_mul d a hd (let x = mul-nonneg p b (weak p hp) h in let y = mul-nonneg q c (weak q hq) k in omega (arith, ints))

  nonpos_sum : b ≤ℤ pos 0 → c ≤ℤ pos 0 → a ≤ℤ pos 0
  nonpos_sum h k = nonpos_of_mul d a hd (let x = mul-nonpos p b (weak p hp) h in let y = mul-nonpos q c (weak q hq) k in omega (arith, ints))

  zero_sum : b ≡ pos 0 → c ≡ pos 0 → a ≡ pos 0
  zero_sum h k = let x = nonneg_sum (omega (arith, ints)) (omega (arith, ints)) in let y = nonpos_sum (omega (arith, ints)) (omega (arith, ints)) in omega (arith, ints)

-- ---- the order of links over one abscissa

abbrev width : Segment → ℤ
width l = step_x (at l.start) (at l.stop)

abbrev height : Segment → ℤ
height l = l.stop.y -ℤ l.start.y

-- how much steeper k is than l, times positive numbers
abbrev steeper : Segment → Segment → ℤ
steeper k l = width l *ℤ height k -ℤ width k *ℤ height l

-- k does not run below l
abbrev IsNotLower : GridPoint → Segment → Segment → Type 0
IsNotLower p k l = (rise (at p) k l <ℤ pos 0) ⊎ ((rise (at p) k l ≡ pos 0) × (pos 0 ≤ℤ steeper k l))

minus_chain : (a b c t u v : ℤ) → b *ℤ (c *ℤ t -ℤ a *ℤ v) ≡ c *ℤ (b *ℤ t -ℤ a *ℤ u) +ℤ a *ℤ (c *ℤ u -ℤ b *ℤ v)
minus_chain a b c t u v = ring 6 (λ a b c t u v. b ⊠ (c ⊠ t ⊟ a ⊠ v) ≐ c ⊠ (b ⊠ t ⊟ a ⊠ u) ⊞ a ⊠ (c ⊠ u ⊟ b ⊠ v)) tt a b c t u v

not_lower_trans : (p : GridPoint) (k l m : Segment) → pos 0 <ℤ width k → pos 0 <ℤ width l → pos 0 <ℤ width m → IsNotLower p k l → IsNotLower p l m → IsNotLower p k m
not_lower_trans p k l m dk dl dm h i = elim h [
  | inl x ↦ elim i [
    | inl y ↦ inl (less_first (width l) (rise (at p) k m) (rise (at p) k l) (rise (at p) l m) (width m) (width k) dl dm dk rises_sum x (omega (arith, ints)))
    | inr y ↦ inl (less_first (width l) (rise (at p) k m) (rise (at p) k l) (rise (at p) l m) (width m) (width k) dl dm dk rises_sum x (let z = y.0 in omega (arith, ints)))
  ]
  | inr x ↦ elim i [
    | inl y ↦ inl (less_second (width l) (rise (at p) k m) (rise (at p) k l) (rise (at p) l m) (width m) (width k) dl dm dk rises_sum (let z = x.0 in omega (arith, ints)) y)
    | inr y ↦ inr (
      zero_sum (width l) (rise (at p) k m) (rise (at p) k l) (rise (at p) l m) (width m) (width k) dl dm dk rises_sum x.0 y.0,
      nonneg_sum (width l) (steeper k m) (steeper k l) (steeper l m) (width m) (width k) dl dm dk (minus_chain (width k) (width l) (width m) (height k) (height l) (height m)) x.1 y.1,
    )
  ]
]
  where
    turn_of : Segment → ℤ
    turn_of s = turn (at s.start) (at s.stop) (at p)

    rises_sum : width l *ℤ rise (at p) k m ≡ width m *ℤ rise (at p) k l +ℤ width k *ℤ rise (at p) l m
    rises_sum = minus_chain (width k) (width l) (width m) (turn_of k) (turn_of l) (turn_of m)

-- the bend of k from l, by their heights and their slopes
bend_is : (l k : Segment) (p : GridPoint) → width k *ℤ turn (at l.start) (at l.stop) (at k.stop) ≡ (k.stop.x -ℤ p.x) *ℤ steeper k l -ℤ rise (at p) k l
bend_is l k p =
    (λ i. step_at k.start k.stop i *ℤ turn_at l.start l.stop k.stop i)
    ∙ ring 10 (λ ax ay bx by cx cy dx dy px py.
    (dx ⊟ cx) ⊠ ((bx ⊟ ax) ⊠ (dy ⊟ ay) ⊟ (by ⊟ ay) ⊠ (dx ⊟ ax))
    ≐ (dx ⊟ px) ⊠ ((bx ⊟ ax) ⊠ (dy ⊟ cy) ⊟ (dx ⊟ cx) ⊠ (by ⊟ ay)) ⊟ ((bx ⊟ ax) ⊠ ((dx ⊟ cx) ⊠ (py ⊟ cy) ⊟ (dy ⊟ cy) ⊠ (px ⊟ cx)) ⊟ (dx ⊟ cx) ⊠ ((bx ⊟ ax) ⊠ (py ⊟ ay) ⊟ (by ⊟ ay) ⊠ (px ⊟ ax))))
    tt l.start.x l.start.y l.stop.x l.stop.y k.start.x k.start.y k.stop.x k.stop.y p.x p.y
    ∙ sym (λ i. (k.stop.x -ℤ p.x) *ℤ (step_at l.start l.stop i *ℤ height k -ℤ step_at k.start k.stop i *ℤ height l)
    -ℤ (step_at l.start l.stop i *ℤ turn_at k.start k.stop p i -ℤ step_at k.start k.stop i *ℤ turn_at l.start l.stop p i))

-- ---- as the code compares

pub rises_up : (h b : ℤ) → pos 0 <ℤ h → true ≡ rises h b
rises_up h b l = sym (ap (λ (u : Bool). u || (is_zero h && int_lt b (pos 0))) (lt_to (pos 0) h l))

rises_cases : (h b : ℤ) → rises h b ≡ false → (h <ℤ pos 0) ⊎ ((h ≡ pos 0) × (pos 0 ≤ℤ b))
rises_cases (pos zero) b e = inr (refl, omega (arith, ints))
rises_cases (pos (suc n)) b e = absurd (let g : true ≡ false = rises_up (pos (suc n)) b (omega (arith, ints)) ∙ e in cc)
rises_cases (negsuc n) b e = inl (omega (arith, ints))

is_ge : (b : ℤ) → pos 0 ≤ℤ b → int_lt b (pos 0) ≡ false
is_ge b h = go (int_lt b (pos 0)) refl
  where
    go : (t : Bool) → int_lt b (pos 0) ≡ t → int_lt b (pos 0) ≡ false
    go true e = absurd (omega (arith, ints))
    go false e = e

rises_not : (h b : ℤ) → (h <ℤ pos 0) ⊎ ((h ≡ pos 0) × (pos 0 ≤ℤ b)) → rises h b ≡ false
rises_not (pos zero) b (inl l) = absurd (omega (arith, ints))
rises_not (pos zero) b (inr l) = is_ge b l.1
rises_not (pos (suc n)) b (inl l) = absurd (omega (arith, ints))
rises_not (pos (suc n)) b (inr l) = let k = l.0 in absurd (omega (arith, ints))
rises_not (negsuc n) b l = refl

-- k stands over the abscissa of p
record IsWideOver (p : GridPoint) (k : Segment) : Type 0 where
  wide : pos 0 <ℤ width k
  past : pos 0 <ℤ (k.stop.x -ℤ p.x)

wide_over : (p : GridPoint) (k : Segment) → is_over (at p) k ≡ true → IsWideOver p k
wide_over p k e =
    let both = and_parts (int_le (step_x (at p) (at k.start)) (pos 0)) (int_lt (pos 0) (step_x (at p) (at k.stop))) e in
    let left : int_le k.start.x p.x ≡ true = le_step p k.start ∙ both.0 in
    let right : int_lt p.x k.stop.x ≡ true = lt_step p k.stop ∙ both.1 in
    record {
      wide = subst (λ (d : ℤ). pos 0 <ℤ d) (sym (step_at k.start k.stop)) (apart k.start.x p.x k.stop.x left right);
      past = beyond p.x k.stop.x right;
    }
  where
    apart : (a x b : ℤ) → int_le a x ≡ true → int_lt x b ≡ true → pos 0 <ℤ (b -ℤ a)
    apart a x b h k = omega (arith, ints)

    beyond : (x b : ℤ) → int_lt x b ≡ true → pos 0 <ℤ (b -ℤ x)
    beyond x b h = omega (arith, ints)

bend_sign : (d b w s h : ℤ) → pos 0 <ℤ d → pos 0 <ℤ w → d *ℤ b ≡ w *ℤ s -ℤ h → h ≡ pos 0 → ((pos 0 ≤ℤ b → pos 0 ≤ℤ s) × (pos 0 ≤ℤ s → pos 0 ≤ℤ b))
bend_sign d b w s h hd hw e z = (
  λ l. nonneg_of_mul w s hw (let x = mul-nonneg d b (weak d hd) l in omega (arith, ints)),
  λ l. nonneg_of_mul d b hd (let x = mul-nonneg w s (weak w hw) l in omega (arith, ints)),
)

module _ (p : GridPoint) (k l : Segment) (over : is_over (at p) k ≡ true) where
  abbrev bend : ℤ
  bend = turn (at l.start) (at l.stop) (at k.stop)

  sign : rise (at p) k l ≡ pos 0 → ((pos 0 ≤ℤ bend → pos 0 ≤ℤ steeper k l) × (pos 0 ≤ℤ steeper k l → pos 0 ≤ℤ bend))
  sign z = let w = wide_over p k over in bend_sign (width k) bend (k.stop.x -ℤ p.x) (steeper k l) (rise (at p) k l) w.wide w.past (bend_is l k p) z

  pub not_lower_of : rises (rise (at p) k l) bend ≡ false → IsNotLower p k l
  not_lower_of e = elim (rises_cases (rise (at p) k l) bend e) [ inl h ↦ inl h | inr h ↦ inr (h.0, (sign h.0).0 h.1) ]

  pub of_not_lower : IsNotLower p k l → rises (rise (at p) k l) bend ≡ false
  of_not_lower n = rises_not (rise (at p) k l) bend (elim n [ inl h ↦ inl h | inr h ↦ inr (h.0, (sign h.0).1 h.1) ])

-- where k does not run below l, and l not below m, k does not run below m
pub under_chain : (p : GridPoint) (k l m : Segment) → is_over (at p) k ≡ true → is_over (at p) l ≡ true → is_over (at p) m ≡ true →
    is_under (at p) l k ≡ false → is_under (at p) m l ≡ false → is_under (at p) m k ≡ false
under_chain p k l m ok ol om h i =
    let x = not_lower_of p k l ok (second (is_over (at p) k) (rises (rise (at p) k l) (turn (at l.start) (at l.stop) (at k.stop))) ok h) in
    let y = not_lower_of p l m ol (second (is_over (at p) l) (rises (rise (at p) l m) (turn (at m.start) (at m.stop) (at l.stop))) ol i) in
    let z = not_lower_trans p k l m (wide_over p k ok).wide (wide_over p l ol).wide (wide_over p m om).wide x y in
    ap (λ (b : Bool). is_over (at p) k && b) (of_not_lower p k m ok z) ∙ nothing (is_over (at p) k)
  where
    second : (a b : Bool) → a ≡ true → (a && b) ≡ false → b ≡ false
    second true b e f = f
    second false b e f = absurd (let g : false ≡ true = e in cc)

    nothing : (a : Bool) → (a && false) ≡ false
    nothing true = refl
    nothing false = refl

-- ---- one comparison

turned : (a b t u : ℤ) → b *ℤ t -ℤ a *ℤ u ≡ neg_ℤ (a *ℤ u -ℤ b *ℤ t)
turned a b t u = omega (arith, ints)

rises_yes : (h b : ℤ) → rises h b ≡ true → (pos 0 <ℤ h) ⊎ ((h ≡ pos 0) × (b <ℤ pos 0))
rises_yes (pos zero) b e = inr (refl, omega (arith, ints))
rises_yes (pos (suc n)) b e = inl (omega (arith, ints))
rises_yes (negsuc n) b e = absurd (let g : false ≡ true = e in cc)

-- where k runs below l, l does not run below k
pub not_both_under : (p : GridPoint) (k l : Segment) → is_over (at p) k ≡ true → is_over (at p) l ≡ true → rises (rise (at p) k l) (turn (at l.start) (at l.stop) (at k.stop)) ≡ true → is_under (at p) k l ≡ false
not_both_under p k l ok ol e =
    is_not (is_over (at p) l) (rises (rise (at p) l k) (turn (at k.start) (at k.stop) (at l.stop))) (of_not_lower p l k ol (elim (rises_yes (rise (at p) k l) (turn (at l.start) (at l.stop) (at k.stop)) e) [
      | inl h ↦ inl (flipped (rise (at p) l k) (rise (at p) k l) turn_rise h)
      | inr h ↦ inr (
        zero_flipped (rise (at p) l k) (rise (at p) k l) turn_rise h.0,
        steep (steeper l k) (steeper k l) (turned (width l) (width k) (height l) (height k)) (turn (at l.start) (at l.stop) (at k.stop)) h.1 (sign p k l ok h.0).1,
      )
    ]))
  where
    is_not : (a b : Bool) → b ≡ false → (a && b) ≡ false
    is_not true b f = f
    is_not false b f = refl

    turn_rise : rise (at p) l k ≡ neg_ℤ (rise (at p) k l)
    turn_rise = turned (width l) (width k) (turn (at l.start) (at l.stop) (at p)) (turn (at k.start) (at k.stop) (at p))

    flipped : (a b : ℤ) → a ≡ neg_ℤ b → pos 0 <ℤ b → a <ℤ pos 0
    flipped a b f h = omega (arith, ints)

    zero_flipped : (a b : ℤ) → a ≡ neg_ℤ b → b ≡ pos 0 → a ≡ pos 0
    zero_flipped a b f h = omega (arith, ints)

    steep : (a b : ℤ) → a ≡ neg_ℤ b → (d : ℤ) → d <ℤ pos 0 → (pos 0 ≤ℤ b → pos 0 ≤ℤ d) → pos 0 ≤ℤ a
    steep a b f d h g = elim (zero_or_less b) [
      | inl k ↦ (let m = g k in absurd (omega (arith, ints)))
      | inr k ↦ omega (arith, ints)
    ]

pub not_under_itself : (p : GridPoint) (l : Segment) → is_over (at p) l ≡ true → is_under (at p) l l ≡ false
not_under_itself p l ol = ap (λ (b : Bool). is_over (at p) l && b) (of_not_lower p l l ol (inr (none (width l) (turn (at l.start) (at l.stop) (at p)), even (steeper l l) (none (width l) (height l))))) ∙ nothing (is_over (at p) l)
  where
    none : (a t : ℤ) → a *ℤ t -ℤ a *ℤ t ≡ pos 0
    none a t = omega (arith, ints)

    even : (a : ℤ) → a ≡ pos 0 → pos 0 ≤ℤ a
    even a e = omega (arith, ints)

    nothing : (a : Bool) → (a && false) ≡ false
    nothing true = refl
    nothing false = refl

-- ---- a point and another one straight below

abbrev under_at : GridPoint → ℤ → GridPoint
under_at p y = record { x = p.x; y = y }

turn_lower : (l : Segment) (p : GridPoint) (y : ℤ) → turn (at l.start) (at l.stop) (at p) ≡ turn (at l.start) (at l.stop) (at (under_at p y)) +ℤ width l *ℤ (p.y -ℤ y)
turn_lower l p y =
    turn_at l.start l.stop p
    ∙ ring 7 (λ ax ay bx by px py y. (bx ⊟ ax) ⊠ (py ⊟ ay) ⊟ (by ⊟ ay) ⊠ (px ⊟ ax) ≐ ((bx ⊟ ax) ⊠ (y ⊟ ay) ⊟ (by ⊟ ay) ⊠ (px ⊟ ax)) ⊞ (bx ⊟ ax) ⊠ (py ⊟ y))
    tt l.start.x l.start.y l.stop.x l.stop.y p.x p.y y
    ∙ sym (λ i. turn_at l.start l.stop (under_at p y) i +ℤ step_at l.start l.stop i *ℤ (p.y -ℤ y))

-- l passes through a point straight below p or above that point, and k below that point: so l does not run below k
pub under_by : (p : GridPoint) (y : ℤ) (l k : Segment) → is_over (at p) l ≡ true → is_over (at p) k ≡ true → turn (at l.start) (at l.stop) (at (under_at p y)) ≤ℤ pos 0
    → pos 0 <ℤ turn (at k.start) (at k.stop) (at (under_at p y)) → is_under (at p) k l ≡ false
under_by p y l k ol ok low high =
    ap (λ (b : Bool). is_over (at p) l && b) (of_not_lower p l k ol (inl less)) ∙ nothing (is_over (at p) l)
  where
    nothing : (a : Bool) → (a && false) ≡ false
    nothing true = refl
    nothing false = refl

    tl : ℤ
    tl = turn (at l.start) (at l.stop) (at (under_at p y))

    tk : ℤ
    tk = turn (at k.start) (at k.stop) (at (under_at p y))

    same : (wk wl tl tk d : ℤ) → wk *ℤ (tl +ℤ wl *ℤ d) -ℤ wl *ℤ (tk +ℤ wk *ℤ d) ≡ wk *ℤ tl -ℤ wl *ℤ tk
    same wk wl tl tk d = ring 5 (λ wk wl tl tk d. wk ⊠ (tl ⊞ wl ⊠ d) ⊟ wl ⊠ (tk ⊞ wk ⊠ d) ≐ wk ⊠ tl ⊟ wl ⊠ tk) tt wk wl tl tk d

    at_bottom : rise (at p) l k ≡ width k *ℤ tl -ℤ width l *ℤ tk
    at_bottom = (λ i. width k *ℤ turn_lower l p y i -ℤ width l *ℤ turn_lower k p y i) ∙ same (width k) (width l) tl tk (p.y -ℤ y)

    less : rise (at p) l k <ℤ pos 0
    less =
        let wl = (wide_over p l ol).wide in
        let wk = (wide_over p k ok).wide in
        let a = mul-nonpos (width k) tl (weak (width k) wk) low in
        let b = mul-positive (width l) tk wl high in
        let e = at_bottom in omega (arith, ints)

-- the turn at a point, by how far it stands above both ends
turn_between : (l : Segment) (p : GridPoint) → turn (at l.start) (at l.stop) (at p) ≡ (l.stop.x -ℤ p.x) *ℤ (p.y -ℤ l.start.y) +ℤ (p.x -ℤ l.start.x) *ℤ (p.y -ℤ l.stop.y)
turn_between l p = turn_at l.start l.stop p ∙ ring 6 (λ ax ay bx by px py. (bx ⊟ ax) ⊠ (py ⊟ ay) ⊟ (by ⊟ ay) ⊠ (px ⊟ ax) ≐ (bx ⊟ px) ⊠ (py ⊟ ay) ⊞ (px ⊟ ax) ⊠ (py ⊟ by)) tt l.start.x l.start.y l.stop.x l.stop.y p.x p.y

-- the abscissa of p is between the ends
pub abscissa_within : (p : GridPoint) (l : Segment) → is_over (at p) l ≡ true → (pos 0 <ℤ (l.stop.x -ℤ p.x)) × (pos 0 ≤ℤ (p.x -ℤ l.start.x))
abscissa_within p l e =
    let both = and_parts (int_le (step_x (at p) (at l.start)) (pos 0)) (int_lt (pos 0) (step_x (at p) (at l.stop))) e in
    let left : int_le l.start.x p.x ≡ true = le_step p l.start ∙ both.0 in ((wide_over p l e).past, from l.start.x p.x left)
  where
    from : (a x : ℤ) → int_le a x ≡ true → pos 0 ≤ℤ (x -ℤ a)
    from a x h = omega (arith, ints)

-- a link with both ends below a point passes below it
pub passes_below : (p : GridPoint) (l : Segment) → is_over (at p) l ≡ true → l.start.y <ℤ p.y → l.stop.y <ℤ p.y → pos 0 <ℤ turn (at l.start) (at l.stop) (at p)
passes_below p l e a b =
    let w = abscissa_within p l e in
    let x = mul-positive (l.stop.x -ℤ p.x) (p.y -ℤ l.start.y) w.0 (up l.start.y p.y a) in
    let y = mul-nonneg (p.x -ℤ l.start.x) (p.y -ℤ l.stop.y) w.1 (weak (p.y -ℤ l.stop.y) (up l.stop.y p.y b)) in
    let t = turn_between l p in omega (arith, ints)
  where
    up : (a b : ℤ) → a <ℤ b → pos 0 <ℤ (b -ℤ a)
    up a b h = omega (arith, ints)

-- one with both ends above it does not
pub not_below : (p : GridPoint) (l : Segment) → is_over (at p) l ≡ true → p.y <ℤ l.start.y → p.y <ℤ l.stop.y → pos 0 <ℤ turn (at l.start) (at l.stop) (at p) → ⊥
not_below p l e a b h =
    let w = abscissa_within p l e in
    let x = mul-nonpos (l.stop.x -ℤ p.x) (p.y -ℤ l.start.y) (weak (l.stop.x -ℤ p.x) w.0) (down l.start.y p.y a) in
    let y = mul-nonpos (p.x -ℤ l.start.x) (p.y -ℤ l.stop.y) w.1 (down l.stop.y p.y b) in
    let t = turn_between l p in omega (arith, ints)
  where
    down : (a b : ℤ) → b <ℤ a → (b -ℤ a) ≤ℤ pos 0
    down a b h = omega (arith, ints)

-- ---- what a test says

pub over_right : (p : GridPoint) (l : Segment) → int_le l.start.x p.x ≡ true → int_lt p.x l.stop.x ≡ is_over (at p) l
over_right p l e = ap (λ (b : Bool). b && int_lt p.x l.stop.x) (sym e) ∙ sym (over_is p l)

-- ---- along two links

-- the rise at another abscissa
rise_moves : (l k : Segment) (p q : GridPoint) → rise (at q) l k ≡ rise (at p) l k -ℤ (q.x -ℤ p.x) *ℤ steeper l k
rise_moves l k p q =
    (λ i. step_at k.start k.stop i *ℤ turn_at l.start l.stop q i -ℤ step_at l.start l.stop i *ℤ turn_at k.start k.stop q i)
    ∙ ring 12 (λ wl hl wk hk ax ay cx cy px py qx qy.
    wk ⊠ (wl ⊠ (qy ⊟ ay) ⊟ hl ⊠ (qx ⊟ ax)) ⊟ wl ⊠ (wk ⊠ (qy ⊟ cy) ⊟ hk ⊠ (qx ⊟ cx))
    ≐ (wk ⊠ (wl ⊠ (py ⊟ ay) ⊟ hl ⊠ (px ⊟ ax)) ⊟ wl ⊠ (wk ⊠ (py ⊟ cy) ⊟ hk ⊠ (px ⊟ cx))) ⊟ (qx ⊟ px) ⊠ (wk ⊠ hl ⊟ wl ⊠ hk))
    tt (l.stop.x -ℤ l.start.x) (height l) (k.stop.x -ℤ k.start.x) (height k) l.start.x l.start.y k.start.x k.start.y p.x p.y q.x q.y
    ∙ sym (λ i. (step_at k.start k.stop i *ℤ turn_at l.start l.stop p i -ℤ step_at l.start l.stop i *ℤ turn_at k.start k.stop p i)
    -ℤ (q.x -ℤ p.x) *ℤ (step_at k.start k.stop i *ℤ height l -ℤ step_at l.start l.stop i *ℤ height k))

-- where l is not lower than k left of an abscissa or there, and right of it, it is not in between
not_lower_between : (l k : Segment) (p q r : GridPoint) → q.x ≤ℤ p.x → p.x <ℤ r.x → rise (at q) l k ≤ℤ pos 0 → rise (at r) l k ≤ℤ pos 0 → IsNotLower p l k
not_lower_between l k p q r left right at_left at_right = elim (zero_or_less (steeper l k)) [
  | inl up ↦ level (rise (at p) l k) (steeper l k) (low (rise (at q) l k) (rise (at p) l k) ((q.x -ℤ p.x) *ℤ steeper l k) ((p.x -ℤ q.x) *ℤ steeper l k) (rise_moves l k p q) (flip q.x p.x (steeper l k)) (mul-nonneg (p.x -ℤ q.x) (steeper l k) (gap q.x p.x left) up) at_left) up
  | inr down ↦ inl (less (rise (at r) l k) (rise (at p) l k) ((r.x -ℤ p.x) *ℤ steeper l k) (rise_moves l k p r) (times_less (r.x -ℤ p.x) (steeper l k) (wide p.x r.x right) down) at_right)
]
  where
    level : (a s : ℤ) → a ≤ℤ pos 0 → pos 0 ≤ℤ s → (a <ℤ pos 0) ⊎ ((a ≡ pos 0) × (pos 0 ≤ℤ s))
    level a s h k = elim (zero_or_less a) [ inl z ↦ inr (omega (arith, ints), k) | inr z ↦ inl z ]

    flip : (a b s : ℤ) → (a -ℤ b) *ℤ s ≡ neg_ℤ ((b -ℤ a) *ℤ s)
    flip = ring 3 (λ a b s. (a ⊟ b) ⊠ s ≐ ⊖ ((b ⊟ a) ⊠ s)) tt

    gap : (a b : ℤ) → a ≤ℤ b → pos 0 ≤ℤ (b -ℤ a)
    gap a b h = omega (arith, ints)

    wide : (a b : ℤ) → a <ℤ b → pos 0 <ℤ (b -ℤ a)
    wide a b h = omega (arith, ints)

    low : (a b x y : ℤ) → a ≡ b -ℤ x → x ≡ neg_ℤ y → pos 0 ≤ℤ y → a ≤ℤ pos 0 → b ≤ℤ pos 0
    low a b x y e f h k = omega (arith, ints)

    less : (a b x : ℤ) → a ≡ b -ℤ x → x <ℤ pos 0 → a ≤ℤ pos 0 → b <ℤ pos 0
    less a b x e h k = omega (arith, ints)

module _ (p : GridPoint) (l k : Segment) (ol : is_over (at p) l ≡ true) (ok : is_over (at p) k ≡ true) (runs : runs_over l k ≡ true) where
  not_lower_over : IsNotLower p l k
  not_lower_over =
      let both = and_parts (int_le (rise (at (later k.start l.start)) l k) (pos 0)) (int_le (rise (at (earlier k.stop l.stop)) l k) (pos 0)) runs in
      let on_l = abscissa_within p l ol in
      let on_k = abscissa_within p k ok in
      not_lower_between l k p (later k.start l.start) (earlier k.stop l.stop)
      (starts (int_le k.start.x l.start.x) (from_gap k.start.x p.x on_k.1) (from_gap l.start.x p.x on_l.1))
      (stops (int_le k.stop.x l.stop.x) (past_gap p.x k.stop.x on_k.0) (past_gap p.x l.stop.x on_l.0))
      (le (rise (at (later k.start l.start)) l k) both.0) (le (rise (at (earlier k.stop l.stop)) l k) both.1)
    where
      le : (a : ℤ) → int_le a (pos 0) ≡ true → a ≤ℤ pos 0
      le a e = omega (arith, ints)

      from_gap : (a b : ℤ) → pos 0 ≤ℤ (b -ℤ a) → a ≤ℤ b
      from_gap a b h = omega (arith, ints)

      past_gap : (a b : ℤ) → pos 0 <ℤ (b -ℤ a) → a <ℤ b
      past_gap a b h = omega (arith, ints)

      starts : (b : Bool) → k.start.x ≤ℤ p.x → l.start.x ≤ℤ p.x → (cond b l.start k.start).x ≤ℤ p.x
      starts true h i = i
      starts false h i = h

      stops : (b : Bool) → p.x <ℤ k.stop.x → p.x <ℤ l.stop.x → p.x <ℤ (cond b k.stop l.stop).x
      stops true h i = h
      stops false h i = i

  -- a link that runs below another nowhere does not run below it at an abscissa that both are over
  pub over_is_not_under : is_under (at p) k l ≡ false
  over_is_not_under = ap (λ (b : Bool). is_over (at p) l && b) (of_not_lower p l k ol not_lower_over) ∙ nothing (is_over (at p) l)
    where
      nothing : (a : Bool) → (a && false) ≡ false
      nothing true = refl
      nothing false = refl

  -- so it is not strictly below a point that the other passes through or above
  pub over_is_not_below : {G : Type 0} → pos 0 <ℤ turn (at l.start) (at l.stop) (at p) → turn (at k.start) (at k.stop) (at p) ≤ℤ pos 0 → G
  over_is_not_below l_below k_above =
      let first = mul-positive (width k) (turn (at l.start) (at l.stop) (at p)) (wide_over p k ok).wide l_below in
      let second = mul-nonpos (width l) (turn (at k.start) (at k.stop) (at p)) (weak (width l) (wide_over p l ol).wide) k_above in
      absurd (elim not_lower_over [
        | inl h ↦ above_zero (width k *ℤ turn (at l.start) (at l.stop) (at p)) (width l *ℤ turn (at k.start) (at k.stop) (at p)) first second (lower (rise (at p) l k) h)
        | inr h ↦ above_zero (width k *ℤ turn (at l.start) (at l.stop) (at p)) (width l *ℤ turn (at k.start) (at k.stop) (at p)) first second (zero (rise (at p) l k) h.0)
      ])
    where
      above_zero : (a b : ℤ) → pos 0 <ℤ a → b ≤ℤ pos 0 → (a -ℤ b) ≤ℤ pos 0 → ⊥
      above_zero a b h k m = omega (arith, ints)

      lower : (a : ℤ) → a <ℤ pos 0 → a ≤ℤ pos 0
      lower a h = omega (arith, ints)

      zero : (a : ℤ) → a ≡ pos 0 → a ≤ℤ pos 0
      zero a h = omega (arith, ints)
