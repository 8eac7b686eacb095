-- The way from a point to one near it misses each link that does not go through the point.
use Rattle.std.proofs.Common.{◌≡◌, ap, ◌∙◌, ℕ, zero, suc, max, ◌≤◌, ◌⊎◌, inl, inr, arith, List, [], ◌∷◌}
use Rattle.std.proofs.Math.IntN.{ℤ, pos, negsuc, nat_abs, ◌+ℤ◌, ◌*ℤ◌, ◌-ℤ◌, neg_ℤ}
use Rattle.std.specs.Prelude.{All, Contains, ◌≤ℤ◌, ◌<ℤ◌}
use Rattle.std.proofs.lemmas.Int.{ints}
use Rattle.std.proofs.lemmas.List.Elements.{All-head, All-tail, All-weaker, All-contains, All-cons, All-nil, All-contains_itself}
use Rattle.plane_algebra.proofs.Differences.{as_dif, same_dif, difs}
use Rattle.plane_algebra.proofs.Ring.{ring, ◌⊞◌, ◌⊟◌, ◌⊠◌, ⊖◌, ◌≐◌}
use Rattle.plane_algebra.proofs.Sign.{signs, mul-positive, mul-nonneg, positive_of_mul, more_or_zero}
use Rattle.plane_parity.proofs.Mix.{nonneg_of_positive, sum_positive, strip-IsOnSegment}
use Rattle.plane_parity.proofs.Cut.{IsOnSegment-swap, step_x-positive_by, zero_turned}
use Rattle.plane_parity.proofs.Passing.{zero-nonneg}
use Rattle.plane_parity.proofs.Determinant.{step_x-swap, step_y-swap}
use Rattle.plane_parity.proofs.Place.{between_x-forward, form_on_line, turned_nonneg}
use Rattle.plane_parity.proofs.FreeSegment.{link_order, not_both}
use Rattle.plane_parity.proofs.AlongLink.{zero_low, turned_low}
use Rattle.plane_parity.proofs.Sector.{in_order_x, in_order_y, nonneg_cases}
use Rattle.plane_parity.proofs.Sight.{plain_up}
use Rattle.plane_model.specs.Points.{GridPoint, RationalPoint, Segment, step_x, step_y, turn, at, IsOn, IsOnSegment}
use Rattle.plane_model.specs.Arrangement.{IsArrangement, IsBefore, IsFree}
use Rattle.plane_model.specs.Sees.{IsOffLinks}

-- ---- a linear form that keeps a point from a link

abbrev pub form : ℤ → ℤ → ℤ → RationalPoint → ℤ
form g h k r = g *ℤ r.X +ℤ h *ℤ r.Y +ℤ k *ℤ r.W

weighed : (d a b c s t g u : ℤ) → d *ℤ a ≡ s *ℤ b +ℤ t *ℤ c +ℤ g *ℤ u → u ≡ pos 0 → d *ℤ a ≡ s *ℤ b +ℤ t *ℤ c
weighed d a b c s t g u e f = let h : d *ℤ a ≡ s *ℤ b +ℤ t *ℤ c +ℤ g *ℤ pos 0 = rw f at e in h ∙ omega (arith, ints)

positive_weighed : (s t b c : ℤ) → pos 0 ≤ℤ s → pos 0 ≤ℤ t → (pos 0 <ℤ s) ⊎ (pos 0 <ℤ t) → pos 0 <ℤ b → pos 0 <ℤ c → pos 0 <ℤ (s *ℤ b +ℤ t *ℤ c)
positive_weighed s t b c hs ht w hb hc = elim w [
  | inl i ↦ one (s *ℤ b) (t *ℤ c) (mul-positive s b i hb) (mul-nonneg t c ht (nonneg_of_positive c hc))
  | inr i ↦ sum_positive (s *ℤ b) (t *ℤ c) (mul-nonneg s b hs (nonneg_of_positive b hb)) (mul-positive t c i hc)
]
  where
    one : (a b : ℤ) → pos 0 <ℤ a → pos 0 ≤ℤ b → pos 0 <ℤ (a +ℤ b)
    one a b h k = omega (arith, ints)

-- a point of a segment is away from one end
away : (u v r : RationalPoint) → pos 0 <ℤ step_x u v → pos 0 ≤ℤ step_x r v → pos 0 ≤ℤ step_x u r → (pos 0 <ℤ step_x r v) ⊎ (pos 0 <ℤ step_x u r)
away u v r d h k = elim (nonneg_cases (step_x u r) k) [
  | inl i ↦ inr i
  | inr e ↦ inl (step_x-positive_by r u v (zero-nonneg (step_x r u) (zero_turned (step_x r u) (step_x u r) (step_x-swap r u) e)) d)
]

-- a form that is positive at both ends of a segment is positive on it
form_between : (g h k : ℤ) (u v r : RationalPoint) → pos 0 <ℤ step_x u v → IsOnSegment u v r → pos 0 <ℤ form g h k u → pos 0 <ℤ form g h k v → pos 0 <ℤ form g h k r
form_between g h k u v r d on hu hv =
    let w : (pos 0 ≤ℤ step_x u r) × (pos 0 ≤ℤ step_x r v) = between_x-forward u v r d on.between_x in
    positive_of_mul (step_x u v) (form g h k r) d
    (rw (weighed (step_x u v) (form g h k r) (form g h k u) (form g h k v) (step_x r v) (step_x u r) h (turn u v r) (form_on_line g h k u.X u.Y u.W v.X v.Y v.W r.X r.Y r.W) on.collinear)
    (positive_weighed (step_x r v) (step_x u r) (form g h k u) (form g h k v) w.1 w.0 (away u v r d w.1 w.0) hu hv))

record Separates (m : RationalPoint) (k : Segment) : Type 0 where
  g : ℤ
  h : ℤ
  i : ℤ
  at_point : pos 0 <ℤ form g h i m
  at_link : (r : RationalPoint) → IsOn k r → form g h i r ≤ℤ pos 0

form_neg : (g h i x y w : ℤ) → neg_ℤ g *ℤ x +ℤ neg_ℤ h *ℤ y +ℤ neg_ℤ i *ℤ w ≡ neg_ℤ (g *ℤ x +ℤ h *ℤ y +ℤ i *ℤ w)
form_neg g h i x y w = rw (as_dif g, as_dif h, as_dif i, as_dif x, as_dif y, as_dif w) (simp difs (same_dif _ _ _ _ (omega arith)))

form_x : (b c x y w : ℤ) → neg_ℤ b *ℤ x +ℤ pos 0 *ℤ y +ℤ c *ℤ w ≡ c *ℤ w -ℤ x *ℤ b
form_x b c x y w = rw (as_dif b, as_dif c, as_dif x, as_dif y, as_dif w, as_dif (pos 0)) (simp difs (same_dif _ _ _ _ (omega arith)))

form_x' : (b c x y w : ℤ) → b *ℤ x +ℤ pos 0 *ℤ y +ℤ neg_ℤ c *ℤ w ≡ x *ℤ b -ℤ c *ℤ w
form_x' b c x y w = rw (as_dif b, as_dif c, as_dif x, as_dif y, as_dif w, as_dif (pos 0)) (simp difs (same_dif _ _ _ _ (omega arith)))

form_y : (b c x y w : ℤ) → pos 0 *ℤ x +ℤ neg_ℤ b *ℤ y +ℤ c *ℤ w ≡ c *ℤ w -ℤ y *ℤ b
form_y b c x y w = rw (as_dif b, as_dif c, as_dif x, as_dif y, as_dif w, as_dif (pos 0)) (simp difs (same_dif _ _ _ _ (omega arith)))

form_y' : (b c x y w : ℤ) → pos 0 *ℤ x +ℤ b *ℤ y +ℤ neg_ℤ c *ℤ w ≡ y *ℤ b -ℤ c *ℤ w
form_y' b c x y w = rw (as_dif b, as_dif c, as_dif x, as_dif y, as_dif w, as_dif (pos 0)) (simp difs (same_dif _ _ _ _ (omega arith)))

pub moved_positive : (a b : ℤ) → a ≡ b → pos 0 <ℤ b → pos 0 <ℤ a
moved_positive a b e h = rw e h

moved_low : (a b : ℤ) → a ≡ b → b ≤ℤ pos 0 → a ≤ℤ pos 0
moved_low a b e h = rw e h

pub neg_positive : (a : ℤ) → a <ℤ pos 0 → pos 0 <ℤ neg_ℤ a
neg_positive a h = omega (arith, ints)

neg_zero_low : (a : ℤ) → a ≡ pos 0 → neg_ℤ a ≤ℤ pos 0
neg_zero_low a h = omega (arith, ints)

-- a form that is positive at a point off a link, and nowhere on the link
separates : (m : RationalPoint) (k : Segment) → IsBefore k.start k.stop → (IsOn k m → ⊥) → Separates m k
separates m k before n = elim (signs (turn (at k.start) (at k.stop) m)) [
  | inl h ↦ record {
    g = (at k.start).Y *ℤ (at k.stop).W -ℤ (at k.stop).Y *ℤ (at k.start).W;
    h = step_x (at k.start) (at k.stop);
    i = (at k.start).X *ℤ (at k.stop).Y -ℤ (at k.start).Y *ℤ (at k.stop).X;
    at_point = h;
    at_link = λ r on. zero_low (turn (at k.start) (at k.stop) r) on.collinear;
  }
  | inr s ↦ elim s [
    | inl e ↦ outside e
    | inr h ↦ record {
      g = neg_ℤ ((at k.start).Y *ℤ (at k.stop).W -ℤ (at k.stop).Y *ℤ (at k.start).W);
      h = neg_ℤ (step_x (at k.start) (at k.stop));
      i = neg_ℤ ((at k.start).X *ℤ (at k.stop).Y -ℤ (at k.start).Y *ℤ (at k.stop).X);
      at_point = moved_positive (form (neg_ℤ ((at k.start).Y *ℤ (at k.stop).W -ℤ (at k.stop).Y *ℤ (at k.start).W)) (neg_ℤ (step_x (at k.start) (at k.stop))) (neg_ℤ ((at k.start).X *ℤ (at k.stop).Y -ℤ (at k.start).Y *ℤ (at k.stop).X)) m) (neg_ℤ (turn (at k.start) (at k.stop) m))
          (form_neg ((at k.start).Y *ℤ (at k.stop).W -ℤ (at k.stop).Y *ℤ (at k.start).W) (step_x (at k.start) (at k.stop)) ((at k.start).X *ℤ (at k.stop).Y -ℤ (at k.start).Y *ℤ (at k.stop).X) m.X m.Y m.W)
          (neg_positive (turn (at k.start) (at k.stop) m) h);
      at_link = λ r on. moved_low (form (neg_ℤ ((at k.start).Y *ℤ (at k.stop).W -ℤ (at k.stop).Y *ℤ (at k.start).W)) (neg_ℤ (step_x (at k.start) (at k.stop))) (neg_ℤ ((at k.start).X *ℤ (at k.stop).Y -ℤ (at k.start).Y *ℤ (at k.stop).X)) r) (neg_ℤ (turn (at k.start) (at k.stop) r))
          (form_neg ((at k.start).Y *ℤ (at k.stop).W -ℤ (at k.stop).Y *ℤ (at k.start).W) (step_x (at k.start) (at k.stop)) ((at k.start).X *ℤ (at k.stop).Y -ℤ (at k.start).Y *ℤ (at k.stop).X) r.X r.Y r.W)
          (neg_zero_low (turn (at k.start) (at k.stop) r) on.collinear);
    }
  ]
]
  where
    order : pos 0 ≤ℤ step_x (at k.start) (at k.stop)
    order = link_order k before

    left_of : pos 0 <ℤ step_x m (at k.start) → Separates m k
    left_of h = record {
      g = neg_ℤ (at k.start).W;
      h = pos 0;
      i = (at k.start).X;
      at_point = moved_positive (form (neg_ℤ (at k.start).W) (pos 0) (at k.start).X m) (step_x m (at k.start)) (form_x (at k.start).W (at k.start).X m.X m.Y m.W) h;
      at_link = λ r on. moved_low (form (neg_ℤ (at k.start).W) (pos 0) (at k.start).X r) (step_x r (at k.start)) (form_x (at k.start).W (at k.start).X r.X r.Y r.W)
          (turned_low (step_x r (at k.start)) (step_x (at k.start) r) (step_x-swap r (at k.start)) (in_order_x (at k.start) (at k.stop) r order on.between_x).0);
    }

    right_of : pos 0 <ℤ step_x (at k.stop) m → Separates m k
    right_of h = record {
      g = (at k.stop).W;
      h = pos 0;
      i = neg_ℤ (at k.stop).X;
      at_point = moved_positive (form (at k.stop).W (pos 0) (neg_ℤ (at k.stop).X) m) (step_x (at k.stop) m) (form_x' (at k.stop).W (at k.stop).X m.X m.Y m.W) h;
      at_link = λ r on. moved_low (form (at k.stop).W (pos 0) (neg_ℤ (at k.stop).X) r) (step_x (at k.stop) r) (form_x' (at k.stop).W (at k.stop).X r.X r.Y r.W)
          (turned_low (step_x (at k.stop) r) (step_x r (at k.stop)) (step_x-swap (at k.stop) r) (in_order_x (at k.start) (at k.stop) r order on.between_x).1);
    }

    below : pos 0 ≤ℤ step_y (at k.start) (at k.stop) → pos 0 <ℤ step_y m (at k.start) → Separates m k
    below o h = record {
      g = pos 0;
      h = neg_ℤ (at k.start).W;
      i = (at k.start).Y;
      at_point = moved_positive (form (pos 0) (neg_ℤ (at k.start).W) (at k.start).Y m) (step_y m (at k.start)) (form_y (at k.start).W (at k.start).Y m.X m.Y m.W) h;
      at_link = λ r on. moved_low (form (pos 0) (neg_ℤ (at k.start).W) (at k.start).Y r) (step_y r (at k.start)) (form_y (at k.start).W (at k.start).Y r.X r.Y r.W)
          (turned_low (step_y r (at k.start)) (step_y (at k.start) r) (step_y-swap r (at k.start)) (in_order_y (at k.start) (at k.stop) r o on.between_y).0);
    }

    above : pos 0 ≤ℤ step_y (at k.start) (at k.stop) → pos 0 <ℤ step_y (at k.stop) m → Separates m k
    above o h = record {
      g = pos 0;
      h = (at k.stop).W;
      i = neg_ℤ (at k.stop).Y;
      at_point = moved_positive (form (pos 0) (at k.stop).W (neg_ℤ (at k.stop).Y) m) (step_y (at k.stop) m) (form_y' (at k.stop).W (at k.stop).Y m.X m.Y m.W) h;
      at_link = λ r on. moved_low (form (pos 0) (at k.stop).W (neg_ℤ (at k.stop).Y) r) (step_y (at k.stop) r) (form_y' (at k.stop).W (at k.stop).Y r.X r.Y r.W)
          (turned_low (step_y (at k.stop) r) (step_y r (at k.stop)) (step_y-swap (at k.stop) r) (in_order_y (at k.start) (at k.stop) r o on.between_y).1);
    }

    on_it : IsOn k m → Separates m k
    on_it h = absurd (n h)

    outside : turn (at k.start) (at k.stop) m ≡ pos 0 → Separates m k
    outside e = elim (more_or_zero (step_x m (at k.start))) [
      | inl h ↦ left_of h
      | inr h ↦ elim (more_or_zero (step_x (at k.stop) m)) [
        | inl i ↦ right_of i
        | inr i ↦ within (turned_nonneg (step_x m (at k.start)) (step_x (at k.start) m) (step_x-swap m (at k.start)) h) (turned_nonneg (step_x (at k.stop) m) (step_x m (at k.stop)) (step_x-swap (at k.stop) m) i)
      ]
    ]
      where
        upright : (k.start.x ≡ k.stop.x) × (k.start.y <ℤ k.stop.y) → pos 0 ≤ℤ step_x (at k.start) m → pos 0 ≤ℤ step_x m (at k.stop) → Separates m k
        upright u h i =
            let o : pos 0 ≤ℤ step_y (at k.start) (at k.stop) = nonneg_of_positive (step_y (at k.start) (at k.stop)) (plain_up k.start.y k.stop.y u.1) in
            elim (more_or_zero (step_y m (at k.start))) [
              | inl j ↦ below o j
              | inr j ↦ elim (more_or_zero (step_y (at k.stop) m)) [
                | inl j' ↦ above o j'
                | inr j' ↦ on_it (record {
                  collinear = e;
                  between_x = inl (h, i);
                  between_y = inl (turned_nonneg (step_y m (at k.start)) (step_y (at k.start) m) (step_y-swap m (at k.start)) j, turned_nonneg (step_y (at k.stop) m) (step_y m (at k.stop)) (step_y-swap (at k.stop) m) j');
                })
              ]
            ]

        within : pos 0 ≤ℤ step_x (at k.start) m → pos 0 ≤ℤ step_x m (at k.stop) → Separates m k
        within h i = elim before [
          | inl d ↦ on_it (strip-IsOnSegment (at k.start) (at k.stop) m (plain_up k.start.x k.stop.x d) e h i)
          | inr u ↦ upright u h i
        ]

-- ---- a point near m, in a direction

unfoldable pub near : GridPoint → RationalPoint → ℕ → RationalPoint
near a m n = record {
  X = pos (suc n) *ℤ m.X +ℤ a.x;
  Y = pos (suc n) *ℤ m.Y +ℤ a.y;
  W = pos (suc n) *ℤ m.W;
  positive = mul-positive (pos (suc n)) m.W (omega (arith, ints)) m.positive;
}

near_form : (t g h k x y w a b : ℤ) → g *ℤ (t *ℤ x +ℤ a) +ℤ h *ℤ (t *ℤ y +ℤ b) +ℤ k *ℤ (t *ℤ w) ≡ t *ℤ (g *ℤ x +ℤ h *ℤ y +ℤ k *ℤ w) +ℤ (g *ℤ a +ℤ h *ℤ b)
near_form = ring 9 (λ t g h k x y w a b. g ⊠ (t ⊠ x ⊞ a) ⊞ h ⊠ (t ⊠ y ⊞ b) ⊞ k ⊠ (t ⊠ w) ≐ t ⊠ (g ⊠ x ⊞ h ⊠ y ⊞ k ⊠ w) ⊞ (g ⊠ a ⊞ h ⊠ b)) tt

pub form-near : (g h k : ℤ) (a : GridPoint) (m : RationalPoint) (n : ℕ) → form g h k (near a m n) ≡ pos (suc n) *ℤ form g h k m +ℤ (g *ℤ a.x +ℤ h *ℤ a.y)
unfolding near
form-near g h k a m n = near_form (pos (suc n)) g h k m.X m.Y m.W a.x a.y

near_step : (t x w a : ℤ) → (t *ℤ x +ℤ a) *ℤ w -ℤ x *ℤ (t *ℤ w) ≡ w *ℤ a
near_step = ring 4 (λ t x w a. (t ⊠ x ⊞ a) ⊠ w ⊟ x ⊠ (t ⊠ w) ≐ w ⊠ a) tt

pub step_x-near : (a : GridPoint) (m : RationalPoint) (n : ℕ) → step_x m (near a m n) ≡ m.W *ℤ a.x
unfolding near
step_x-near a m n = near_step (pos (suc n)) m.X m.W a.x

pub near_right : (a : GridPoint) (m : RationalPoint) (n : ℕ) → pos 0 <ℤ a.x → pos 0 <ℤ step_x m (near a m n)
near_right a m n h = moved_positive (step_x m (near a m n)) (m.W *ℤ a.x) (step_x-near a m n) (mul-positive m.W a.x m.positive h)

pub near_left : (a : GridPoint) (m : RationalPoint) (n : ℕ) → a.x <ℤ pos 0 → pos 0 <ℤ step_x (near a m n) m
near_left a m n h =
    moved_positive (step_x (near a m n) m) (m.W *ℤ neg_ℤ a.x) (step_x-swap (near a m n) m ∙ ap neg_ℤ (step_x-near a m n) ∙ turned m.W a.x)
    (mul-positive m.W (neg_ℤ a.x) m.positive (neg_positive a.x h))
  where
    turned : (w a : ℤ) → neg_ℤ (w *ℤ a) ≡ w *ℤ neg_ℤ a
    turned = ring 2 (λ w a. ⊖ (w ⊠ a) ≐ w ⊠ ⊖ a) tt

-- near enough, a form that is positive at the point is positive
pub overcome : (n : ℕ) (f c : ℤ) → pos 0 <ℤ f → nat_abs c ≤ n → pos 0 <ℤ (pos (suc n) *ℤ f +ℤ c)
overcome n (pos zero) c h k = absurd (omega (arith, ints))
overcome n (pos (suc f)) (pos c) h k = omega (arith, ints)
overcome n (pos (suc f)) (negsuc c) h k = omega (arith, ints)
overcome n (negsuc f) c h k = absurd (omega (arith, ints))

-- a direction that is not upright
abbrev pub IsAslant : GridPoint → Type 0
IsAslant a = (pos 0 <ℤ a.x) ⊎ (a.x <ℤ pos 0)

-- a form that is positive at a point and at one near it is positive between the two
form_on_way : (g h k : ℤ) (a : GridPoint) → IsAslant a → (m : RationalPoint) (n : ℕ) (r : RationalPoint) → IsOnSegment m (near a m n) r → pos 0 <ℤ form g h k m → pos 0 <ℤ form g h k (near a m n) → pos 0 <ℤ form g h k r
form_on_way g h k a (inl i) m n r on hm hn = form_between g h k m (near a m n) r (near_right a m n i) on hm hn
form_on_way g h k a (inr i) m n r on hm hn = form_between g h k (near a m n) m r (near_left a m n i) (IsOnSegment-swap m (near a m n) r on) hn hm

-- near enough, the way from m to the point near it meets the link nowhere
abbrev pub Misses : GridPoint → RationalPoint → Segment → ℕ → Type 0
Misses a m k n = (r : RationalPoint) → IsOnSegment m (near a m n) r → IsOn k r → ⊥

abbrev pub FromSome : (ℕ → Type 0) → Type 0
FromSome P = (n : ℕ) × ((j : ℕ) → n ≤ j → P j)

pub misses_link : (a : GridPoint) → IsAslant a → (m : RationalPoint) (k : Segment) → IsBefore k.start k.stop → (IsOn k m → ⊥) → FromSome (Misses a m k)
misses_link a slant m k before off =
    (nat_abs (s.g *ℤ a.x +ℤ s.h *ℤ a.y), λ n len r on onk. not_both (form s.g s.h s.i r) (form_on_way s.g s.h s.i a slant m n r on s.at_point (there n len)) (s.at_link r onk))
  where
    s : Separates m k
    s = separates m k before off

    there : (n : ℕ) → nat_abs (s.g *ℤ a.x +ℤ s.h *ℤ a.y) ≤ n → pos 0 <ℤ form s.g s.h s.i (near a m n)
    there n len = moved_positive (form s.g s.h s.i (near a m n)) (pos (suc n) *ℤ form s.g s.h s.i m +ℤ (s.g *ℤ a.x +ℤ s.h *ℤ a.y)) (form-near s.g s.h s.i a m n)
        (overcome n (form s.g s.h s.i m) (s.g *ℤ a.x +ℤ s.h *ℤ a.y) s.at_point len)

-- ---- one bound for all links

pub both_below : (a b n : ℕ) → max a b ≤ n → (a ≤ n) × (b ≤ n)
both_below a b n h = omega arith

-- what holds of each link from some number on holds of all from some number on
from_all : (P : Segment → ℕ → Type 0) (ks : List Segment) → All (λ k. FromSome (P k)) ks → FromSome (λ n. All (λ k. P k n) ks)
from_all P [] h = (0, λ j len. All-nil (λ k. P k j))
from_all P (k ∷ ks) h =
    let b : FromSome (λ n. All (λ k. P k n) ks) = from_all P ks (All-tail (λ k. FromSome (P k)) k ks h) in
    let c : FromSome (P k) = All-head (λ k. FromSome (P k)) k ks h in (
      max c.0 b.0,
      λ j len. All-cons (λ k. P k j) k ks (c.1 j (both_below c.0 b.0 j len).0) (b.1 j (both_below c.0 b.0 j len).1),
    )

pub from_each : (P : Segment → ℕ → Type 0) (S : List Segment) → ((k : Segment) → Contains S k → FromSome (P k)) → FromSome (λ n. (k : Segment) → Contains S k → P k n)
from_each P S each =
    let b = from_all P S (All-weaker (Contains S) (λ k. FromSome (P k)) each S (All-contains_itself S)) in
    (b.0, λ j len k c. All-contains (λ k. P k j) S k (b.1 j len) c)

-- some point to the right of a point off the links has no link between the two
pub free_to_right : (S : List Segment) → IsArrangement S → (m : RationalPoint) → IsOffLinks S m → (z : RationalPoint) × (pos 0 <ℤ step_x m z) × IsFree S m z
free_to_right S arr m off =
    let b = from_each (Misses right m) S (λ k c. misses_link right (inl (omega (arith, ints))) m k (All-contains (λ j. IsBefore j.start j.stop) S k arr.ordered c) (off k c)) in
    (near right m b.0, near_right right m b.0 (omega (arith, ints)), b.1 b.0 (omega arith))
  where
    right : GridPoint
    right = record { x = pos 1; y = pos 0 }
