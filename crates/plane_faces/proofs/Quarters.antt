-- A dart of each quarter of the turn: how the order from the positive x axis fits the one from straight down.
use Rattle.std.proofs.Common.{◌≡◌, ◌⊎◌, inl, inr, refl, sym, ap, subst, ◌∙◌, arith, Bool, true, false, not, cond, ◌&&◌, ◌||◌}
use Rattle.std.proofs.Math.IntN.{ℤ, pos, neg_ℤ, ◌*ℤ◌, ◌-ℤ◌}
use Rattle.std.specs.Prelude.{int_lt, ◌<ℤ◌, ◌≤ℤ◌}
use Rattle.std.proofs.lemmas.Int.{ints}
use Rattle.plane_parity.proofs.Mix.{nonneg_of_positive}
use Rattle.plane_parity.proofs.Passing.{zero-nonneg}
use Rattle.plane_parity.proofs.NearPoint.{neg_positive}
use Rattle.plane_algebra.proofs.Ring.{ring, ◌⊞◌, ◌⊟◌, ◌⊠◌, ⊖◌, num, ◌≐◌}
use Rattle.plane_algebra.proofs.Sign.{mul-nonneg, mul-positive}
use Rattle.plane_algebra.proofs.Tests.{lt_from, lt_to, by_test}
use Rattle.plane_algebra.proofs.Laws.{neg-mul_ℤ}
use Rattle.plane_algebra.proofs.Differences.{mul-neg}
use Rattle.plane_model.proofs.PointOrder.{same_int_from, same_int_to}
use Rattle.plane_model.specs.Points.{GridPoint, Segment, at, turn, cross, same_int}
use Rattle.plane_model.specs.Arrangement.{IsBefore}
use Rattle.plane_model.specs.Arcs.{goes_up, turns_before}
use Rattle.plane_model.specs.Rotation.{Dart, tail, head, precedes}
use Rattle.plane_faces.specs.Around.{step_of_dart}

-- ---- the quarter of a direction (a, b), counterclockwise from the positive x axis

abbrev First : ℤ → ℤ → Type 0
First a b = ((pos 0 <ℤ a) × (pos 0 ≤ℤ b)) ⊎ ((a ≡ pos 0) × (pos 0 <ℤ b))

abbrev Second : ℤ → ℤ → Type 0
Second a b = (a <ℤ pos 0) × (pos 0 <ℤ b)

abbrev Third : ℤ → ℤ → Type 0
Third a b = ((a <ℤ pos 0) × (b ≤ℤ pos 0)) ⊎ ((a ≡ pos 0) × (b <ℤ pos 0))

abbrev Fourth : ℤ → ℤ → Type 0
Fourth a b = (pos 0 <ℤ a) × (b <ℤ pos 0)

abbrev Ahead : ℤ → ℤ → Type 0
Ahead a b = (pos 0 <ℤ a) ⊎ ((a ≡ pos 0) × (pos 0 <ℤ b))

abbrev Back : ℤ → ℤ → Type 0
Back a b = (a <ℤ pos 0) ⊎ ((a ≡ pos 0) × (b <ℤ pos 0))

abbrev Up : ℤ → ℤ → Type 0
Up a b = (pos 0 <ℤ b) ⊎ ((b ≡ pos 0) × (pos 0 <ℤ a))

abbrev Down : ℤ → ℤ → Type 0
Down a b = (b <ℤ pos 0) ⊎ ((b ≡ pos 0) × (a ≤ℤ pos 0))

first_of : (a b : ℤ) → Ahead a b → Up a b → First a b
first_of a b (inl h) (inl k) = inl (h, omega (arith, ints))
first_of a b (inl h) (inr k) = inl (h, omega (arith, ints, k.0))
first_of a b (inr h) k = inr h

second_of : (a b : ℤ) → Back a b → Up a b → Second a b
second_of a b (inl h) (inl k) = (h, k)
second_of a b (inl h) (inr k) = absurd (omega (arith, ints, k.1))
second_of a b (inr h) (inl k) = absurd (omega (arith, ints, h.1))
second_of a b (inr h) (inr k) = absurd (omega (arith, ints, h.1, k.0))

third_of : (a b : ℤ) → Back a b → Down a b → Third a b
third_of a b (inl h) (inl k) = inl (h, omega (arith, ints))
third_of a b (inl h) (inr k) = inl (h, omega (arith, ints, k.0))
third_of a b (inr h) k = inr h

fourth_of : (a b : ℤ) → Ahead a b → Down a b → Fourth a b
fourth_of a b (inl h) (inl k) = (h, k)
fourth_of a b (inl h) (inr k) = absurd (omega (arith, ints, k.1))
fourth_of a b (inr h) (inl k) = absurd (omega (arith, ints, h.1))
fourth_of a b (inr h) (inr k) = absurd (omega (arith, ints, h.1, k.0))

-- ---- products of numbers of known signs

not_positive : (a : ℤ) → a ≤ℤ pos 0 → pos 0 ≤ℤ neg_ℤ a
not_positive a h = omega (arith, ints)

pub none' : (a : ℤ) → a ≡ pos 0 → pos 0 ≤ℤ neg_ℤ a
none' a e = omega (arith, ints)

neg_both : (a b : ℤ) → neg_ℤ a *ℤ neg_ℤ b ≡ a *ℤ b
neg_both = ring 2 (λ a b. ⊖ a ⊠ ⊖ b ≐ a ⊠ b) tt

above : (x y z : ℤ) → pos 0 ≤ℤ x → pos 0 <ℤ z → z ≡ neg_ℤ y → pos 0 <ℤ (x -ℤ y)
above x y z h k e = omega (arith, ints)

above' : (x y z : ℤ) → pos 0 <ℤ x → pos 0 ≤ℤ z → z ≡ neg_ℤ y → pos 0 <ℤ (x -ℤ y)
above' x y z h k e = omega (arith, ints)

below : (x y z : ℤ) → pos 0 ≤ℤ z → z ≡ neg_ℤ x → pos 0 ≤ℤ y → pos 0 <ℤ (x -ℤ y) → ⊥
below x y z h e k n = omega (arith, ints)

-- ---- how two directions turn

fourth_first : (a b c d : ℤ) → Fourth a b → First c d → pos 0 <ℤ (a *ℤ d -ℤ b *ℤ c)
fourth_first a b c d f (inl h) = above (a *ℤ d) (b *ℤ c) (neg_ℤ b *ℤ c) (mul-nonneg a d (nonneg_of_positive a f.0) h.1) (mul-positive (neg_ℤ b) c (neg_positive b f.1) h.0) (neg-mul_ℤ b c)
fourth_first a b c d f (inr h) = above' (a *ℤ d) (b *ℤ c) (neg_ℤ b *ℤ c) (mul-positive a d f.0 h.1) (mul-nonneg (neg_ℤ b) c (nonneg_of_positive (neg_ℤ b) (neg_positive b f.1)) (zero-nonneg c h.0)) (neg-mul_ℤ b c)

second_third : (a b c d : ℤ) → Second a b → Third c d → pos 0 <ℤ (a *ℤ d -ℤ b *ℤ c)
second_third a b c d s (inl h) =
    above (a *ℤ d) (b *ℤ c) (b *ℤ neg_ℤ c)
    (subst (λ (z : ℤ). pos 0 ≤ℤ z) (neg_both a d) (mul-nonneg (neg_ℤ a) (neg_ℤ d) (nonneg_of_positive (neg_ℤ a) (neg_positive a s.0)) (not_positive d h.1)))
    (mul-positive b (neg_ℤ c) s.1 (neg_positive c h.0)) (mul-neg b c)
second_third a b c d s (inr h) =
    above' (a *ℤ d) (b *ℤ c) (b *ℤ neg_ℤ c)
    (subst (λ (z : ℤ). pos 0 <ℤ z) (neg_both a d) (mul-positive (neg_ℤ a) (neg_ℤ d) (neg_positive a s.0) (neg_positive d h.1)))
    (mul-nonneg b (neg_ℤ c) (nonneg_of_positive b s.1) (none' c h.0)) (mul-neg b c)

second_not_first : (a b c d : ℤ) → Second a b → First c d → pos 0 <ℤ (a *ℤ d -ℤ b *ℤ c) → ⊥
second_not_first a b c d s (inl h) = below (a *ℤ d) (b *ℤ c) (neg_ℤ a *ℤ d) (mul-nonneg (neg_ℤ a) d (nonneg_of_positive (neg_ℤ a) (neg_positive a s.0)) h.1) (neg-mul_ℤ a d) (mul-nonneg b c (nonneg_of_positive b s.1) (nonneg_of_positive c h.0))
second_not_first a b c d s (inr h) = below (a *ℤ d) (b *ℤ c) (neg_ℤ a *ℤ d) (mul-nonneg (neg_ℤ a) d (nonneg_of_positive (neg_ℤ a) (neg_positive a s.0)) (nonneg_of_positive d h.1)) (neg-mul_ℤ a d) (mul-nonneg b c (nonneg_of_positive b s.1) (zero-nonneg c h.0))

fourth_not_third : (a b c d : ℤ) → Fourth a b → Third c d → pos 0 <ℤ (a *ℤ d -ℤ b *ℤ c) → ⊥
fourth_not_third a b c d f (inl h) =
    below (a *ℤ d) (b *ℤ c) (a *ℤ neg_ℤ d) (mul-nonneg a (neg_ℤ d) (nonneg_of_positive a f.0) (not_positive d h.1)) (mul-neg a d)
    (subst (λ (z : ℤ). pos 0 ≤ℤ z) (neg_both b c) (mul-nonneg (neg_ℤ b) (neg_ℤ c) (nonneg_of_positive (neg_ℤ b) (neg_positive b f.1)) (nonneg_of_positive (neg_ℤ c) (neg_positive c h.0))))
fourth_not_third a b c d f (inr h) =
    below (a *ℤ d) (b *ℤ c) (a *ℤ neg_ℤ d) (mul-nonneg a (neg_ℤ d) (nonneg_of_positive a f.0) (nonneg_of_positive (neg_ℤ d) (neg_positive d h.1))) (mul-neg a d)
    (subst (λ (z : ℤ). pos 0 ≤ℤ z) (neg_both b c) (mul-nonneg (neg_ℤ b) (neg_ℤ c) (nonneg_of_positive (neg_ℤ b) (neg_positive b f.1)) (none' c h.0)))

-- ---- the quarter of a dart

abbrev across : Dart → ℤ
across d = (head d).x -ℤ (tail d).x

abbrev upward : Dart → ℤ
upward d = (head d).y -ℤ (tail d).y

abbrev pub is_up : Dart → Bool
is_up d = goes_up (step_of_dart d)

-- the dart is in the last quarter, which stands first from straight down
abbrev pub is_low : Dart → Bool
is_low d = d.forward && not (is_up d)

ahead : (d : Dart) → IsBefore d.link.start d.link.stop → d.forward ≡ true → Ahead (across d) (upward d)
ahead d = go d.link d.forward
  where
    less : (a b : ℤ) → a <ℤ b → pos 0 <ℤ (b -ℤ a)
    less a b h = omega (arith, ints)

    same : (a b : ℤ) → a ≡ b → b -ℤ a ≡ pos 0
    same a b e = omega (arith, ints)

    go : (l : Segment) (f : Bool) → IsBefore l.start l.stop → f ≡ true → Ahead (across (record { link = l; forward = f })) (upward (record { link = l; forward = f }))
    go l true (inl h) e = inl (less l.start.x l.stop.x h)
    go l true (inr h) e = inr (same l.start.x l.stop.x h.0, less l.start.y l.stop.y h.1)
    go l false h e = let i : false ≡ true = e in absurd (cc)

back : (d : Dart) → IsBefore d.link.start d.link.stop → d.forward ≡ false → Back (across d) (upward d)
back d = go d.link d.forward
  where
    more : (a b : ℤ) → a <ℤ b → (a -ℤ b) <ℤ pos 0
    more a b h = omega (arith, ints)

    same : (a b : ℤ) → a ≡ b → a -ℤ b ≡ pos 0
    same a b e = omega (arith, ints)

    go : (l : Segment) (f : Bool) → IsBefore l.start l.stop → f ≡ false → Back (across (record { link = l; forward = f })) (upward (record { link = l; forward = f }))
    go l true h e = let i : true ≡ false = e in absurd (cc)
    go l false (inl h) e = inl (more l.start.x l.stop.x h)
    go l false (inr h) e = inr (same l.start.x l.stop.x h.0, more l.start.y l.stop.y h.1)

up : (px py hx hy : ℤ) → (int_lt py hy || (same_int py hy && int_lt px hx)) ≡ true → Up (hx -ℤ px) (hy -ℤ py)
up px py hx hy = go (int_lt py hy) refl (same_int py hy) refl
  where
    less : (a b : ℤ) → a <ℤ b → pos 0 <ℤ (b -ℤ a)
    less a b h = omega (arith, ints)

    same : (a b : ℤ) → a ≡ b → b -ℤ a ≡ pos 0
    same a b e = omega (arith, ints)

    go : (t : Bool) → int_lt py hy ≡ t → (s : Bool) → same_int py hy ≡ s → (t || (s && int_lt px hx)) ≡ true → Up (hx -ℤ px) (hy -ℤ py)
    go true e s f h = inl (less py hy (lt_from py hy e))
    go false e true f h = inr (same py hy (same_int_from py hy f), less px hx (lt_from px hx h))
    go false e false f h = let i : false ≡ true = h in absurd (cc)

down : (px py hx hy : ℤ) → (int_lt py hy || (same_int py hy && int_lt px hx)) ≡ false → Down (hx -ℤ px) (hy -ℤ py)
down px py hx hy = go (int_lt py hy) refl (same_int py hy) refl
  where
    low : (a b : ℤ) → int_lt a b ≡ false → (a ≡ b → ⊥) → (b -ℤ a) <ℤ pos 0
    low a b e n = by_test (int_lt b a) (λ h. more a b (lt_from b a h)) (λ h. absurd (n (equal a b e h)))
      where
        more : (a b : ℤ) → b <ℤ a → (b -ℤ a) <ℤ pos 0
        more a b h = omega (arith, ints)

        equal : (a b : ℤ) → int_lt a b ≡ false → int_lt b a ≡ false → a ≡ b
        equal a b e h = omega (arith, ints)

    same : (a b : ℤ) → a ≡ b → b -ℤ a ≡ pos 0
    same a b e = omega (arith, ints)

    not_more : (a b : ℤ) → int_lt a b ≡ false → (b -ℤ a) ≤ℤ pos 0
    not_more a b e = omega (arith, ints)

    go : (t : Bool) → int_lt py hy ≡ t → (s : Bool) → same_int py hy ≡ s → (t || (s && int_lt px hx)) ≡ false → Down (hx -ℤ px) (hy -ℤ py)
    go true e s f h = let i : true ≡ false = h in absurd (cc)
    go false e true f h = inr (same py hy (same_int_from py hy f), not_more px hx h)
    go false e false f h = inl (low py hy e (λ g. let i : true ≡ false = sym (same_int_to py hy g) ∙ f in absurd (cc)))

-- ---- two darts of one vertex

module _ (d e : Dart) (od : IsBefore d.link.start d.link.stop) (oe : IsBefore e.link.start e.link.stop) (same_tail : tail e ≡ tail d) where
  abbrev turns : Bool
  turns = int_lt (pos 0) (cross (step_of_dart d) (step_of_dart e))

  by_cross : int_lt (pos 0) (turn (at (tail d)) (at (head d)) (at (head e))) ≡ turns
  by_cross = ap (int_lt (pos 0)) (is_cross (tail d) (head d) (head e) ∙ ap (λ (p : GridPoint). cross (step_of_dart d) (record { start = p; stop = head e })) (sym same_tail))
    where
      is_cross : (a b p : GridPoint) → turn (at a) (at b) (at p) ≡ cross (record { start = a; stop = b }) (record { start = a; stop = p })
      is_cross a b p = ring 6 (λ ax ay bx by px py. (ay ⊠ num (pos 1) ⊟ by ⊠ num (pos 1)) ⊠ px ⊞ (bx ⊠ num (pos 1) ⊟ ax ⊠ num (pos 1)) ⊠ py ⊞ (ax ⊠ by ⊟ ay ⊠ bx) ⊠ num (pos 1)
          ≐ (bx ⊟ ax) ⊠ (py ⊟ ay) ⊟ (by ⊟ ay) ⊠ (px ⊟ ax)) tt a.x a.y b.x b.y p.x p.y

  goes : (f : Dart) → is_up f ≡ true → Up (across f) (upward f)
  goes f h = up (tail f).x (tail f).y (head f).x (head f).y h

  falls : (f : Dart) → is_up f ≡ false → Down (across f) (upward f)
  falls f h = down (tail f).x (tail f).y (head f).x (head f).y h

  area : ℤ
  area = cross (step_of_dart d) (step_of_dart e)

  abbrev shown : pos 0 <ℤ cross (step_of_dart d) (step_of_dart e) → turns ≡ true
  shown h = lt_to (pos 0) (cross (step_of_dart d) (step_of_dart e)) h

  low_high : d.forward ≡ true → is_up d ≡ false → e.forward ≡ true → is_up e ≡ true → turns ≡ true
  low_high f u g v = shown (fourth_first (across d) (upward d) (across e) (upward e) (fourth_of (across d) (upward d) (ahead d od f) (falls d u)) (first_of (across e) (upward e) (ahead e oe g) (goes e v)))

  up_down : d.forward ≡ false → is_up d ≡ true → e.forward ≡ false → is_up e ≡ false → turns ≡ true
  up_down f u g v = shown (second_third (across d) (upward d) (across e) (upward e) (second_of (across d) (upward d) (back d od f) (goes d u)) (third_of (across e) (upward e) (back e oe g) (falls e v)))

  up_not_first : d.forward ≡ false → is_up d ≡ true → e.forward ≡ true → is_up e ≡ true → turns ≡ true → ⊥
  up_not_first f u g v h = second_not_first (across d) (upward d) (across e) (upward e) (second_of (across d) (upward d) (back d od f) (goes d u)) (first_of (across e) (upward e) (ahead e oe g) (goes e v)) (lt_from (pos 0) (cross (step_of_dart d) (step_of_dart e)) h)

  low_not_third : d.forward ≡ true → is_up d ≡ false → e.forward ≡ false → is_up e ≡ false → turns ≡ true → ⊥
  low_not_third f u g v h = fourth_not_third (across d) (upward d) (across e) (upward e) (fourth_of (across d) (upward d) (ahead d od f) (falls d u)) (third_of (across e) (upward e) (back e oe g) (falls e v)) (lt_from (pos 0) (cross (step_of_dart d) (step_of_dart e)) h)

  -- the order from straight down, and the one from the positive x axis, by what is known of the two
  abbrev Down_order : Bool → Bool → Bool → Bool
  Down_order f g x = cond f (cond g x true) (cond g false x)

  abbrev Axis_order : Bool → Bool → Bool → Bool
  Axis_order u v x = (u && not v) || ((u && v || not u && not v) && x)

  clash : {G : Type 0} → false ≡ true → G
  clash e = let i : false ≡ true = e in absurd (cc)

  -- what comes after a low dart is low
  pub low_stays : turns_before (step_of_dart d) (step_of_dart e) ≡ true → is_low d ≡ true → is_low e ≡ true
  low_stays = go d.forward refl (is_up d) refl e.forward refl (is_up e) refl turns refl
    where
      go : (f : Bool) → d.forward ≡ f → (u : Bool) → is_up d ≡ u → (g : Bool) → e.forward ≡ g → (v : Bool) → is_up e ≡ v → (x : Bool) → turns ≡ x → Axis_order u v x ≡ true → (f && not u) ≡ true → (g && not v) ≡ true
      go true i false j true k false m x n t h = refl
      go true i false j false k false m true n t h = absurd (low_not_third i j k m n)
      go true i false j false k false m false n t h = clash t
      go true i false j g k true m x n t h = clash t
      go true i true j g k v m x n t h = clash h
      go false i u j g k v m x n t h = clash h

  -- within the low darts, and within the others, the two orders are one
  pub low_before : turns_before (step_of_dart d) (step_of_dart e) ≡ true → is_low d ≡ true → is_low e ≡ true → precedes d e ≡ true
  low_before t a b = ap (Down_order d.forward e.forward) by_cross ∙ go d.forward (is_up d) e.forward (is_up e) turns t a b
    where
      go : (f u g v x : Bool) → Axis_order u v x ≡ true → (f && not u) ≡ true → (g && not v) ≡ true → Down_order f g x ≡ true
      go true false true false x t a b = t
      go true true g v x t a b = clash a
      go false u g v x t a b = clash a
      go true false true true x t a b = clash b
      go true false false v x t a b = clash b

  pub high_before : turns_before (step_of_dart d) (step_of_dart e) ≡ true → is_low d ≡ false → is_low e ≡ false → precedes d e ≡ true
  high_before t a b = ap (Down_order d.forward e.forward) by_cross ∙ go d.forward refl (is_up d) refl e.forward refl (is_up e) refl turns refl t a b
    where
      go : (f : Bool) → d.forward ≡ f → (u : Bool) → is_up d ≡ u → (g : Bool) → e.forward ≡ g → (v : Bool) → is_up e ≡ v → (x : Bool) → turns ≡ x → Axis_order u v x ≡ true → (f && not u) ≡ false → (g && not v) ≡ false → Down_order f g x ≡ true
      go true i false j g k v m x n t a b = clash (sym a)
      go true i true j true k false m x n t a b = clash (sym b)
      go true i true j true k true m x n t a b = t
      go true i true j false k v m x n t a b = refl
      go false i u j true k false m x n t a b = clash (sym b)
      go false i true j true k true m true n t a b = absurd (up_not_first i j k m n)
      go false i true j true k true m false n t a b = clash t
      go false i false j true k true m x n t a b = clash t
      go false i true j false k true m x n t a b = t
      go false i true j false k false m x n t a b = sym n ∙ up_down i j k m
      go false i false j false k true m x n t a b = clash t
      go false i false j false k false m x n t a b = t

  -- the low darts come before the others from straight down
  pub low_first : is_low d ≡ true → is_low e ≡ false → precedes d e ≡ true
  low_first a b = ap (Down_order d.forward e.forward) by_cross ∙ go d.forward refl (is_up d) refl e.forward refl (is_up e) refl turns refl a b
    where
      go : (f : Bool) → d.forward ≡ f → (u : Bool) → is_up d ≡ u → (g : Bool) → e.forward ≡ g → (v : Bool) → is_up e ≡ v → (x : Bool) → turns ≡ x → (f && not u) ≡ true → (g && not v) ≡ false → Down_order f g x ≡ true
      go true i false j true k true m x n a b = sym n ∙ low_high i j k m
      go true i false j true k false m x n a b = clash (sym b)
      go true i false j false k v m x n a b = refl
      go true i true j g k v m x n a b = clash a
      go false i u j g k v m x n a b = clash a
