-- Steps in whole numbers: how two of them turn, and between which others a step lies.
use Rattle.std.proofs.Common.{◌≡◌, ◌⊎◌, inl, inr, refl, sym, ap, subst, ◌∙◌, arith, Bool, true, false, cond, ◌&&◌, ◌||◌}
use Rattle.std.proofs.Math.IntN.{ℤ, pos, ◌+ℤ◌, ◌*ℤ◌, ◌-ℤ◌, neg_ℤ}
use Rattle.std.specs.Prelude.{int_lt, ◌≤ℤ◌, ◌<ℤ◌}
use Rattle.std.proofs.lemmas.Int.{ints}
use Rattle.plane_faces.proofs.Quarters.{none'}
use Rattle.plane_parity.proofs.Mix.{nonneg_of_positive, sum_positive}
use Rattle.plane_parity.proofs.NearPoint.{neg_positive}
use Rattle.plane_parity.proofs.Passing.{zero-nonneg}
use Rattle.plane_parity.proofs.Visible.{square_nonneg}
use Rattle.plane_algebra.proofs.Ring.{ring, ◌⊞◌, ◌⊟◌, ◌⊠◌, ⊖◌, num, ◌≐◌}
use Rattle.plane_algebra.proofs.Sign.{mul-nonneg, mul-positive, positive_of_mul, zero_of_mul}
use Rattle.plane_algebra.proofs.Tests.{lt_to, lt_from}
use Rattle.plane_model.specs.Points.{GridPoint, Segment}
use Rattle.plane_model.specs.Arrangement.{IsBefore}
use Rattle.plane_model.specs.Rotation.{Dart, tail, head}

-- ---- the step of a dart

abbrev pub way : Dart → GridPoint
way d = record { x = (head d).x -ℤ (tail d).x; y = (head d).y -ℤ (tail d).y }

-- positive if b is counterclockwise of a
abbrev pub area : GridPoint → GridPoint → ℤ
area a b = a.x *ℤ b.y -ℤ a.y *ℤ b.x

-- positive if b goes forward along a
abbrev pub dot : GridPoint → GridPoint → ℤ
dot a b = a.x *ℤ b.x +ℤ a.y *ℤ b.y

abbrev pub back : GridPoint → GridPoint
back a = record { x = neg_ℤ a.x; y = neg_ℤ a.y }

-- to greater abscissas, or straight up; and the other way
abbrev pub Heads : Bool → GridPoint → Type 0
Heads true a = (pos 0 <ℤ a.x) ⊎ ((a.x ≡ pos 0) × (pos 0 <ℤ a.y))
Heads false a = (a.x <ℤ pos 0) ⊎ ((a.x ≡ pos 0) × (a.y <ℤ pos 0))

pub heads : (d : Dart) → IsBefore d.link.start d.link.stop → Heads d.forward (way d)
heads d = go d.link d.forward
  where
    less : (a b : ℤ) → a <ℤ b → pos 0 <ℤ (b -ℤ a)
    less a b h = omega (arith, ints)

    more : (a b : ℤ) → a <ℤ b → (a -ℤ b) <ℤ pos 0
    more a b h = omega (arith, ints)

    same : (a b : ℤ) → a ≡ b → b -ℤ a ≡ pos 0
    same a b e = omega (arith, ints)

    go : (l : Segment) (f : Bool) → IsBefore l.start l.stop → Heads f (way (record { link = l; forward = f }))
    go l true (inl h) = inl (less l.start.x l.stop.x h)
    go l true (inr h) = inr (same l.start.x l.stop.x h.0, less l.start.y l.stop.y h.1)
    go l false (inl h) = inl (more l.start.x l.stop.x h)
    go l false (inr h) = inr (same l.stop.x l.start.x (sym h.0), more l.start.y l.stop.y h.1)

-- ---- signs

lower : (a : ℤ) → a <ℤ pos 0 → pos 0 ≤ℤ neg_ℤ a
lower a h = omega (arith, ints)

positive_square : (a : ℤ) → (pos 0 <ℤ a) ⊎ (a <ℤ pos 0) → pos 0 <ℤ (a *ℤ a)
positive_square a (inl h) = mul-positive a a h h
positive_square a (inr h) = subst (λ (t : ℤ). pos 0 <ℤ t) (both_turned a) (mul-positive (neg_ℤ a) (neg_ℤ a) (neg_positive a h) (neg_positive a h))
  where
    both_turned : (a : ℤ) → neg_ℤ a *ℤ neg_ℤ a ≡ a *ℤ a
    both_turned = ring 1 (λ a. ⊖ a ⊠ ⊖ a ≐ a ⊠ a) tt

more_first : (a b : ℤ) → pos 0 <ℤ a → pos 0 ≤ℤ b → pos 0 <ℤ (a +ℤ b)
more_first a b h k = omega (arith, ints)

-- a step that goes anywhere has a length
pub long_way : (f : Bool) (a : GridPoint) → Heads f a → pos 0 <ℤ dot a a
long_way true a (inl h) = more_first (a.x *ℤ a.x) (a.y *ℤ a.y) (positive_square a.x (inl h)) (square_nonneg a.y)
long_way true a (inr h) = sum_positive (a.x *ℤ a.x) (a.y *ℤ a.y) (square_nonneg a.x) (positive_square a.y (inl h.1))
long_way false a (inl h) = more_first (a.x *ℤ a.x) (a.y *ℤ a.y) (positive_square a.x (inr h)) (square_nonneg a.y)
long_way false a (inr h) = sum_positive (a.x *ℤ a.x) (a.y *ℤ a.y) (square_nonneg a.x) (positive_square a.y (inr h.1))

-- ---- steps along one line

area_turned : (a b c d : ℤ) → a *ℤ d -ℤ b *ℤ c ≡ neg_ℤ (c *ℤ b -ℤ d *ℤ a)
area_turned = ring 4 (λ a b c d. a ⊠ d ⊟ b ⊠ c ≐ ⊖ (c ⊠ b ⊟ d ⊠ a)) tt

pub area-swap : (a b : GridPoint) → area a b ≡ neg_ℤ (area b a)
area-swap a b = area_turned a.x a.y b.x b.y

lengthened : (a b c d : ℤ) → a *ℤ neg_ℤ (a *ℤ c +ℤ b *ℤ d) ≡ neg_ℤ c *ℤ (a *ℤ a +ℤ b *ℤ b) +ℤ neg_ℤ b *ℤ (a *ℤ d -ℤ b *ℤ c)
lengthened = ring 4 (λ a b c d. a ⊠ ⊖ (a ⊠ c ⊞ b ⊠ d) ≐ ⊖ c ⊠ (a ⊠ a ⊞ b ⊠ b) ⊞ ⊖ b ⊠ (a ⊠ d ⊟ b ⊠ c)) tt

-- steps in a line of which one goes ahead and one back are opposite
pub opposite_ways : (a b : GridPoint) → Heads true a → Heads false b → area a b ≡ pos 0 → dot a b <ℤ pos 0
opposite_ways a b (inl h) (inl k) e =
    low (dot a b) (positive_of_mul a.x (neg_ℤ (dot a b)) h
    (moved (a.x *ℤ neg_ℤ (dot a b)) (neg_ℤ b.x *ℤ dot a a) (area a b) (neg_ℤ a.y) (lengthened a.x a.y b.x b.y) e
    (mul-positive (neg_ℤ b.x) (dot a a) (neg_positive b.x k) (long_way true a (inl h)))))
  where
    low : (a : ℤ) → pos 0 <ℤ neg_ℤ a → a <ℤ pos 0
    low a h = omega (arith, ints)

    moved : (a b c s : ℤ) → a ≡ b +ℤ s *ℤ c → c ≡ pos 0 → pos 0 <ℤ b → pos 0 <ℤ a
    moved a b c s e f h = let g : a ≡ b +ℤ s *ℤ pos 0 = rw f at e in omega (arith, ints)
opposite_ways a b (inl h) (inr k) e = absurd (clash (a.x *ℤ neg_ℤ b.y) (area a b) (flat a.x a.y b.x b.y ∙ lost (neg_ℤ (area a b)) a.y b.x k.0) (mul-positive a.x (neg_ℤ b.y) h (neg_positive b.y k.1)) e)
  where
    flat : (a b c d : ℤ) → a *ℤ neg_ℤ d ≡ neg_ℤ (a *ℤ d -ℤ b *ℤ c) +ℤ neg_ℤ b *ℤ c
    flat = ring 4 (λ a b c d. a ⊠ ⊖ d ≐ ⊖ (a ⊠ d ⊟ b ⊠ c) ⊞ ⊖ b ⊠ c) tt

    lost : (a b c : ℤ) → c ≡ pos 0 → a +ℤ neg_ℤ b *ℤ c ≡ a
    lost a b c e = rw e (omega (arith, ints))

    clash : (a b : ℤ) → a ≡ neg_ℤ b → pos 0 <ℤ a → b ≡ pos 0 → ⊥
    clash a b e h f = omega (arith, ints)
opposite_ways a b (inr h) (inl k) e = absurd (clash (a.y *ℤ neg_ℤ b.x) (area a b) (flat a.x a.y b.x b.y ∙ lost (area a b) a.x b.y h.0) (mul-positive a.y (neg_ℤ b.x) h.1 (neg_positive b.x k)) e)
  where
    flat : (a b c d : ℤ) → b *ℤ neg_ℤ c ≡ (a *ℤ d -ℤ b *ℤ c) +ℤ neg_ℤ d *ℤ a
    flat = ring 4 (λ a b c d. b ⊠ ⊖ c ≐ (a ⊠ d ⊟ b ⊠ c) ⊞ ⊖ d ⊠ a) tt

    lost : (a b c : ℤ) → b ≡ pos 0 → a +ℤ neg_ℤ c *ℤ b ≡ a
    lost a b c e = rw e (omega (arith, ints))

    clash : (a b : ℤ) → a ≡ b → pos 0 <ℤ a → b ≡ pos 0 → ⊥
    clash a b e h f = omega (arith, ints)
opposite_ways a b (inr h) (inr k) e = upright (dot a b) (a.y *ℤ neg_ℤ b.y) b.x a.x (flat a.x a.y b.x b.y) h.0 (mul-positive a.y (neg_ℤ b.y) h.1 (neg_positive b.y k.1))
  where
    flat : (a b c d : ℤ) → a *ℤ c +ℤ b *ℤ d ≡ c *ℤ a -ℤ b *ℤ neg_ℤ d
    flat = ring 4 (λ a b c d. a ⊠ c ⊞ b ⊠ d ≐ c ⊠ a ⊟ b ⊠ ⊖ d) tt

    upright : (d t s x : ℤ) → d ≡ s *ℤ x -ℤ t → x ≡ pos 0 → pos 0 <ℤ t → d <ℤ pos 0
    upright d t s x e f h = let g : d ≡ s *ℤ pos 0 -ℤ t = rw f at e in omega (arith, ints)

-- ---- three steps of one half plane

-- to no lesser abscissas, or no greater ones
abbrev Faces : Bool → GridPoint → Type 0
Faces true a = pos 0 ≤ℤ a.x
Faces false a = pos 0 ≤ℤ neg_ℤ a.x

faces : (f : Bool) (a : GridPoint) → Heads f a → Faces f a
faces true a (inl h) = nonneg_of_positive a.x h
faces true a (inr h) = zero-nonneg a.x h.0
faces false a (inl h) = lower a.x h
faces false a (inr h) = none' a.x h.0

-- they do not go round
three_ways : (a b c : GridPoint) → Faces true a → Faces true b → Faces true c → pos 0 <ℤ area a b → pos 0 <ℤ area b c → pos 0 <ℤ area c a → ⊥
three_ways a b c fa fb fc ab bc ca =
    let nothing = all_none (area a b *ℤ c.x) (area b c *ℤ a.x) (area c a *ℤ b.x) (round a.x a.y b.x b.y c.x c.y)
    (mul-nonneg (area a b) c.x (nonneg_of_positive (area a b) ab) fc) (mul-nonneg (area b c) a.x (nonneg_of_positive (area b c) bc) fa) (mul-nonneg (area c a) b.x (nonneg_of_positive (area c a) ca) fb) in
    flat a.x a.y b.x b.y (zero_of_mul (area b c) a.x bc nothing.0) (zero_of_mul (area c a) b.x ca nothing.1) ab
  where
    round : (a b c d e f : ℤ) → (a *ℤ d -ℤ b *ℤ c) *ℤ e +ℤ (c *ℤ f -ℤ d *ℤ e) *ℤ a +ℤ (e *ℤ b -ℤ f *ℤ a) *ℤ c ≡ pos 0
    round = ring 6 (λ a b c d e f. (a ⊠ d ⊟ b ⊠ c) ⊠ e ⊞ (c ⊠ f ⊟ d ⊠ e) ⊠ a ⊞ (e ⊠ b ⊟ f ⊠ a) ⊠ c ≐ num (pos 0)) tt

    all_none : (a b c : ℤ) → a +ℤ b +ℤ c ≡ pos 0 → pos 0 ≤ℤ a → pos 0 ≤ℤ b → pos 0 ≤ℤ c → (b ≡ pos 0) × (c ≡ pos 0)
    all_none a b c e h k l = (omega (arith, ints), omega (arith, ints))

    flat : (a b c d : ℤ) → a ≡ pos 0 → c ≡ pos 0 → pos 0 <ℤ (a *ℤ d -ℤ b *ℤ c) → ⊥
    flat a b c d e f h = let g : pos 0 <ℤ (pos 0 *ℤ d -ℤ b *ℤ pos 0) = rw (e, f) at h in omega (arith, ints)

-- ---- the order of rotation

-- one step comes before another, counterclockwise from straight down, if they head so and turn so
abbrev pub Order : Bool → Bool → Bool → Bool
Order f g turns = cond f (cond g turns true) (cond g false turns)

abbrev pub Passed : Bool → Bool → Bool → Bool
Passed from_first whole to_last = cond whole (from_first && to_last) (from_first || to_last)

low_test : (a : ℤ) → a <ℤ pos 0 → int_lt (pos 0) a ≡ false
low_test a h = sym (test a h)
  where
    test : (a : ℤ) → a <ℤ pos 0 → false ≡ int_lt (pos 0) a
    test a h = omega (arith, ints)

-- u is just counterclockwise of v, and w is on its one side or the other as it is on that of v
unfoldable pub Aside : GridPoint → GridPoint → GridPoint → Type 0
Aside v w u = ((area w u <ℤ pos 0) × (pos 0 ≤ℤ area v w)) ⊎ ((pos 0 <ℤ area w u) × (area v w <ℤ pos 0))

back_left : (a b : GridPoint) → area a b <ℤ pos 0 → pos 0 <ℤ area (back a) b
back_left a b h = subst (λ (t : ℤ). pos 0 <ℤ t) (sym (go a.x a.y b.x b.y)) (neg_positive (area a b) h)
  where
    go : (a b c d : ℤ) → neg_ℤ a *ℤ d -ℤ neg_ℤ b *ℤ c ≡ neg_ℤ (a *ℤ d -ℤ b *ℤ c)
    go = ring 4 (λ a b c d. ⊖ a ⊠ d ⊟ ⊖ b ⊠ c ≐ ⊖ (a ⊠ d ⊟ b ⊠ c)) tt

back_right : (a b : GridPoint) → area a b <ℤ pos 0 → pos 0 <ℤ area a (back b)
back_right a b h = subst (λ (t : ℤ). pos 0 <ℤ t) (sym (go a.x a.y b.x b.y)) (neg_positive (area a b) h)
  where
    go : (a b c d : ℤ) → a *ℤ neg_ℤ d -ℤ b *ℤ neg_ℤ c ≡ neg_ℤ (a *ℤ d -ℤ b *ℤ c)
    go = ring 4 (λ a b c d. a ⊠ ⊖ d ⊟ b ⊠ ⊖ c ≐ ⊖ (a ⊠ d ⊟ b ⊠ c)) tt

back_both : (a b : GridPoint) → pos 0 <ℤ area a b → pos 0 <ℤ area (back a) (back b)
back_both a b h = subst (λ (t : ℤ). pos 0 <ℤ t) (sym (go a.x a.y b.x b.y)) h
  where
    go : (a b c d : ℤ) → neg_ℤ a *ℤ neg_ℤ d -ℤ neg_ℤ b *ℤ neg_ℤ c ≡ a *ℤ d -ℤ b *ℤ c
    go = ring 4 (λ a b c d. ⊖ a ⊠ ⊖ d ⊟ ⊖ b ⊠ ⊖ c ≐ a ⊠ d ⊟ b ⊠ c) tt

back_first : (a b : GridPoint) → pos 0 <ℤ area a b → pos 0 <ℤ area (back b) a
back_first a b h = subst (λ (t : ℤ). pos 0 <ℤ t) (sym (go a.x a.y b.x b.y)) h
  where
    go : (a b c d : ℤ) → neg_ℤ c *ℤ b -ℤ neg_ℤ d *ℤ a ≡ a *ℤ d -ℤ b *ℤ c
    go = ring 4 (λ a b c d. ⊖ c ⊠ b ⊟ ⊖ d ⊠ a ≐ a ⊠ d ⊟ b ⊠ c) tt

back_second : (a b : GridPoint) → pos 0 <ℤ area a b → pos 0 <ℤ area b (back a)
back_second a b h = subst (λ (t : ℤ). pos 0 <ℤ t) (sym (go a.x a.y b.x b.y)) h
  where
    go : (a b c d : ℤ) → c *ℤ neg_ℤ b -ℤ d *ℤ neg_ℤ a ≡ a *ℤ d -ℤ b *ℤ c
    go = ring 4 (λ a b c d. c ⊠ ⊖ b ⊟ d ⊠ ⊖ a ≐ a ⊠ d ⊟ b ⊠ c) tt

-- so turning from v to u one does not pass w
pub not_passed : (v w u : GridPoint) (f g h : Bool) → Heads f v → Heads g w → Heads h u → pos 0 <ℤ area v u → Aside v w u
    → Passed (Order f g (int_lt (pos 0) (area v w))) (Order f h (int_lt (pos 0) (area v u))) (Order g h (int_lt (pos 0) (area w u))) ≡ false
unfolding Aside
not_passed v w u f g h hv hw hu whole aside =
    ap (λ (t : Bool). Passed (Order f g (int_lt (pos 0) (area v w))) (Order f h t) (Order g h (int_lt (pos 0) (area w u)))) (lt_to (pos 0) (area v u) whole)
    ∙ elim aside [
      | inl s ↦
          ap (λ (t : Bool). Passed (Order f g (int_lt (pos 0) (area v w))) (Order f h true) (Order g h t)) (low_test (area w u) s.0)
          ∙ right f g h (int_lt (pos 0) (area v w)) refl (faces f v hv) (faces g w hw) (faces h u hu) s.0
      | inr s ↦
          (λ i. Passed (Order f g (low_test (area v w) s.1 i)) (Order f h true) (Order g h (lt_to (pos 0) (area w u) s.0 i)))
          ∙ left f g h (faces f v hv) (faces g w hw) (faces h u hu) s.0 s.1
    ]
  where
    right : (f g h t : Bool) → int_lt (pos 0) (area v w) ≡ t → Faces f v → Faces g w → Faces h u → area w u <ℤ pos 0 → Passed (Order f g t) (Order f h true) (Order g h false) ≡ false
    right true true true t e fv fw fu b = and_none t
      where
        and_none : (t : Bool) → (t && false) ≡ false
        and_none true = refl
        and_none false = refl
    right true true false true e fv fw fu b = absurd (three_ways v w (back u) fv fw fu (lt_from (pos 0) (area v w) e) (back_right w u b) (back_first v u whole))
    right true true false false e fv fw fu b = refl
    right true false h t e fv fw fu b = go h
      where
        go : (h : Bool) → Passed true (Order true h true) (Order false h false) ≡ false
        go true = refl
        go false = refl
    right false true h t e fv fw fu b = go h
      where
        go : (h : Bool) → Passed false (Order false h true) (Order true h false) ≡ false
        go true = refl
        go false = refl
    right false false true true e fv fw fu b = absurd (three_ways (back v) (back w) u fv fw fu (back_both v w (lt_from (pos 0) (area v w) e)) (back_left w u b) (back_second v u whole))
    right false false true false e fv fw fu b = refl
    right false false false t e fv fw fu b = and_none t
      where
        and_none : (t : Bool) → (t && false) ≡ false
        and_none true = refl
        and_none false = refl

    left : (f g h : Bool) → Faces f v → Faces g w → Faces h u → pos 0 <ℤ area w u → area v w <ℤ pos 0 → Passed (Order f g false) (Order f h true) (Order g h true) ≡ false
    left true true true fv fw fu b a = refl
    left true true false fv fw fu b a = refl
    left true false true fv fw fu b a = refl
    left true false false fv fw fu b a = absurd (three_ways v (back w) (back u) fv fw fu (back_right v w a) (back_both w u b) (back_first v u whole))
    left false true true fv fw fu b a = absurd (three_ways (back v) w u fv fw fu (back_left v w a) b (back_second v u whole))
    left false true false fv fw fu b a = refl
    left false false true fv fw fu b a = refl
    left false false false fv fw fu b a = refl
