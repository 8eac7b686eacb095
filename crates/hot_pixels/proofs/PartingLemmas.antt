-- Two segments that meet, and not in a common end alone, are on a common side of each line.
use Rattle.std.proofs.Common.{◌≡◌, ◌⊎◌, inl, inr, sym, ap, ◌∙◌, true, false, ◌&&◌, ◌||◌, Some, ℤ, pos, ◌+ℤ◌, ◌-ℤ◌, ◌*ℤ◌, neg_ℤ, ◌≤ℤ◌, ◌<ℤ◌, int_lt, int_le}
use Rattle.plane_algebra.proofs.Ring.{ring, ◌⊞◌, ◌⊟◌, ◌⊠◌, ⊖◌, num, ◌≐◌}
use Rattle.plane_algebra.proofs.Order.{order, order_cases, same_of_mul-same_ℤ}
use Rattle.plane_algebra.proofs.Sign.{mul-nonpos, nonpos_of_mul, zero_of_mul}
use Rattle.plane_algebra.proofs.Tests.{lt_to, le_to, by_test, or_first, or_second}
use Rattle.plane_model.specs.Points.{GridPoint, RationalPoint, Segment, IsOn, same_point, reversed}
use Rattle.plane_model.specs.Pixel.{crossing_pixel}
use Rattle.plane_model.proofs.PointOrder.{same_point_to, clash}
use Rattle.plane_snapping.proofs.CrossingComputed.{crossing_is_computed}
use Rattle.plane_snapping.proofs.Means.{IsAt, IsMean}
use Rattle.plane_snapping.proofs.Readings.{mean_of_on}
use Rattle.plane_snapping.proofs.Links.{flip_mean}
use Rattle.hot_pixels.specs.Spots.{is_end, share_end}
use Rattle.hot_pixels.specs.Marking.{IsEndOf}
use Rattle.hot_pixels.specs.Parting.{side, are_left, is_left}
use Rattle.hot_pixels.proofs.CrossingLemmas.{share_end-turned}

-- ---- where a rational point stands to a line

abbrev value : Segment → RationalPoint → ℤ
value line P = (line.stop.x -ℤ line.start.x) *ℤ (P.Y -ℤ P.W *ℤ line.start.y) -ℤ (line.stop.y -ℤ line.start.y) *ℤ (P.X -ℤ P.W *ℤ line.start.x)

-- one coordinate of a mean, counted from that of another point
mean_from : (n a b W X p q l : ℤ) → n *ℤ X ≡ W *ℤ (a *ℤ p +ℤ b *ℤ q) → n ≡ a +ℤ b → n *ℤ (X -ℤ W *ℤ l) ≡ W *ℤ (a *ℤ (p -ℤ l) +ℤ b *ℤ (q -ℤ l))
mean_from n a b W X p q l e f =
    ring 4 (λ n W X l. n ⊠ (X ⊟ W ⊠ l) ≐ n ⊠ X ⊟ n ⊠ (W ⊠ l)) tt n W X l
    ∙ (λ i. e i -ℤ f i *ℤ (W *ℤ l))
    ∙ ring 6 (λ a b W p q l. W ⊠ (a ⊠ p ⊞ b ⊠ q) ⊟ (a ⊞ b) ⊠ (W ⊠ l) ≐ W ⊠ (a ⊠ (p ⊟ l) ⊞ b ⊠ (q ⊟ l))) tt a b W p q l

mean_value : (line : Segment) (p q : GridPoint) (a b : ℤ) (P : RationalPoint) → IsMean p q a b P → (a +ℤ b) *ℤ value line P ≡ P.W *ℤ (a *ℤ side line p +ℤ b *ℤ side line q)
mean_value line p q a b P m =
    let dx = line.stop.x -ℤ line.start.x in
    let dy = line.stop.y -ℤ line.start.y in
    let across = mean_from (a +ℤ b) a b P.W P.X p.x q.x line.start.x m.across (λ i. a +ℤ b) in
    let upward = mean_from (a +ℤ b) a b P.W P.Y p.y q.y line.start.y m.upward (λ i. a +ℤ b) in
    ring 5 (λ n c d u v. n ⊠ (c ⊠ v ⊟ d ⊠ u) ≐ c ⊠ (n ⊠ v) ⊟ d ⊠ (n ⊠ u)) tt (a +ℤ b) dx dy (P.X -ℤ P.W *ℤ line.start.x) (P.Y -ℤ P.W *ℤ line.start.y)
    ∙ (λ i. dx *ℤ upward i -ℤ dy *ℤ across i)
    ∙ ring 9 (λ c d a b W u v s t. c ⊠ (W ⊠ (a ⊠ v ⊞ b ⊠ t)) ⊟ d ⊠ (W ⊠ (a ⊠ u ⊞ b ⊠ s)) ≐ W ⊠ (a ⊠ (c ⊠ v ⊟ d ⊠ u) ⊞ b ⊠ (c ⊠ t ⊟ d ⊠ s))) tt dx dy a b P.W (p.x -ℤ line.start.x) (p.y -ℤ line.start.y) (q.x -ℤ line.start.x) (q.y -ℤ line.start.y)

-- the same line, the other way

side_back : (line : Segment) (p : GridPoint) → side (reversed line) p ≡ neg_ℤ (side line p)
side_back line p =
    ring 6 (λ a b c d x y. (a ⊟ c) ⊠ (y ⊟ d) ⊟ (b ⊟ d) ⊠ (x ⊟ c) ≐ ⊖ ((c ⊟ a) ⊠ (y ⊟ b) ⊟ (d ⊟ b) ⊠ (x ⊟ a))) tt line.start.x line.start.y line.stop.x line.stop.y p.x p.y

value_back : (line : Segment) (P : RationalPoint) → value (reversed line) P ≡ neg_ℤ (value line P)
value_back line P =
    ring 7 (λ a b c d X Y W. (a ⊟ c) ⊠ (Y ⊟ W ⊠ d) ⊟ (b ⊟ d) ⊠ (X ⊟ W ⊠ c) ≐ ⊖ ((c ⊟ a) ⊠ (Y ⊟ W ⊠ b) ⊟ (d ⊟ b) ⊠ (X ⊟ W ⊠ a))) tt line.start.x line.start.y line.stop.x line.stop.y P.X P.Y P.W

-- ---- segments on the right alone

record IsOnRight (line s : Segment) : Type 0 where
  start : side line s.start ≤ℤ pos 0
  stop : side line s.stop ≤ℤ pos 0
  some : (side line s.start <ℤ pos 0) ⊎ (side line s.stop <ℤ pos 0)

left_first : (a b : ℤ) → pos 0 <ℤ a → are_left a b ≡ true
left_first a b h = or_first (int_lt (pos 0) a || int_lt (pos 0) b) (int_le (pos 0) a && int_le (pos 0) b) (or_first (int_lt (pos 0) a) (int_lt (pos 0) b) (lt_to (pos 0) a h))

left_second : (a b : ℤ) → pos 0 <ℤ b → are_left a b ≡ true
left_second a b h = or_first (int_lt (pos 0) a || int_lt (pos 0) b) (int_le (pos 0) a && int_le (pos 0) b) (or_second (int_lt (pos 0) a) (int_lt (pos 0) b) (lt_to (pos 0) b h))

left_both : (a b : ℤ) → pos 0 ≤ℤ a → pos 0 ≤ℤ b → are_left a b ≡ true
left_both a b h k = or_second (int_lt (pos 0) a || int_lt (pos 0) b) (int_le (pos 0) a && int_le (pos 0) b) (λ i. le_to (pos 0) a h i && le_to (pos 0) b k i)

not_left : (line s : Segment) → is_left line s ≡ false → IsOnRight line s
not_left line s e =
    let a = side line s.start in
    let b = side line s.stop in
    let a_low : a ≤ℤ pos 0 = order_cases a (pos 0) (λ h. h) (λ h. clash (are_left a b) (left_first a b h) e) in
    let b_low : b ≤ℤ pos 0 = order_cases b (pos 0) (λ h. h) (λ h. clash (are_left a b) (left_second a b h) e) in
    record {
      start = a_low;
      stop = b_low;
      some = order_cases (pos 0) a (λ h. order_cases (pos 0) b (λ k. clash (are_left a b) (left_both a b h k) e) (λ k. inr k)) (λ h. inl h);
    }

right_is_left_back : (line s : Segment) → IsOnRight line s → is_left (reversed line) s ≡ true
right_is_left_back line s h = elim h.some [
  | inl k ↦ left_first (side (reversed line) s.start) (side (reversed line) s.stop) (let e = side_back line s.start in omega order)
  | inr k ↦ left_second (side (reversed line) s.start) (side (reversed line) s.stop) (let e = side_back line s.stop in omega order)
]

-- ---- means that are ends

at_second : (p q : GridPoint) (a b : ℤ) (P : RationalPoint) → IsMean p q a b P → a ≡ pos 0 → IsAt P q
at_second p q a b P m z = (one P.X p.x q.x m.across, one P.Y p.y q.y m.upward)
  where
    positive : pos 0 <ℤ b
    positive = let s = m.weights.some in omega order

    one : (X u v : ℤ) → (a +ℤ b) *ℤ X ≡ P.W *ℤ (a *ℤ u +ℤ b *ℤ v) → X ≡ P.W *ℤ v
    one X u v e = same_of_mul-same_ℤ b X (P.W *ℤ v) positive weighed
      where
        weighed : b *ℤ X ≡ b *ℤ (P.W *ℤ v)
        weighed =
            ring 2 (λ b X. b ⊠ X ≐ (num (pos 0) ⊞ b) ⊠ X) tt b X
            ∙ (λ i. (sym z i +ℤ b) *ℤ X) ∙ e ∙ (λ i. P.W *ℤ (z i *ℤ u +ℤ b *ℤ v))
            ∙ ring 4 (λ b W u v. W ⊠ (num (pos 0) ⊠ u ⊞ b ⊠ v) ≐ b ⊠ (W ⊠ v)) tt b P.W u v

no_weight : (a v : ℤ) → v <ℤ pos 0 → a *ℤ v ≡ pos 0 → a ≡ pos 0
no_weight a v h e = zero_of_mul (neg_ℤ v) a (omega order) (ring 2 (λ a v. (⊖ v) ⊠ a ≐ ⊖ (a ⊠ v)) tt a v ∙ ap neg_ℤ e)

module _ (line s : Segment) (h : IsOnRight line s) (P : RationalPoint) (a b : ℤ) (m : IsMean s.start s.stop a b P) where
  abbrev first_part : ℤ
  first_part = a *ℤ side line s.start

  abbrev second_part : ℤ
  second_part = b *ℤ side line s.stop

  first_low : first_part ≤ℤ pos 0
  first_low = mul-nonpos a (side line s.start) m.weights.first h.start

  second_low : second_part ≤ℤ pos 0
  second_low = mul-nonpos b (side line s.stop) m.weights.second h.stop

  -- its points are not left of the line
  value_low : value line P ≤ℤ pos 0
  value_low =
      let low = mul-nonpos P.W (first_part +ℤ second_part) (let w = P.positive in omega order) (let f = first_low in let g = second_low in omega order) in
      let e = mean_value line s.start s.stop a b P m in
      nonpos_of_mul (a +ℤ b) (value line P) m.weights.some (omega order)

  -- and one that lies in it is an end
  end_in_line : value line P ≡ pos 0 → (p : GridPoint) × IsEndOf s p × IsAt P p
  end_in_line z =
      let zero : P.W *ℤ (first_part +ℤ second_part) ≡ pos 0 = sym (mean_value line s.start s.stop a b P m) ∙ ap (λ (v : ℤ). (a +ℤ b) *ℤ v) z ∙ ring 1 (λ n. n ⊠ num (pos 0) ≐ num (pos 0)) tt (a +ℤ b) in
      let sum : first_part +ℤ second_part ≡ pos 0 = zero_of_mul P.W (first_part +ℤ second_part) P.positive zero in
      let f = first_low in
      let g = second_low in
      elim h.some [
        | inl k ↦ (s.stop, inr (λ i. s.stop), at_second s.start s.stop a b P m (no_weight a (side line s.start) k (let r : first_part ≡ pos 0 = omega order in r)))
        | inr k ↦ (s.start, inl (λ i. s.start), at_second s.stop s.start b a P (flip_mean m) (no_weight b (side line s.stop) k (let r : second_part ≡ pos 0 = omega order in r)))
      ]

-- ---- common ends

end_to : (t : Segment) (p h : GridPoint) → p ≡ h → IsEndOf t h → is_end t p ≡ true
end_to t p h e (inl f) = or_first (same_point p t.start) (same_point p t.stop) (same_point_to p t.start (e ∙ f))
end_to t p h e (inr f) = or_second (same_point p t.start) (same_point p t.stop) (same_point_to p t.stop (e ∙ f))

share_from : (s t : Segment) (g h : GridPoint) → IsEndOf s g → IsEndOf t h → g ≡ h → share_end s t ≡ true
share_from s t g h (inl f) k e = or_first (is_end t s.start) (is_end t s.stop) (end_to t s.start h (sym f ∙ e) k)
share_from s t g h (inr f) k e = or_second (is_end t s.start) (is_end t s.stop) (end_to t s.stop h (sym f ∙ e) k)

one_place : (P : RationalPoint) (g h : GridPoint) → IsAt P g → IsAt P h → g ≡ h
one_place P g h a b =
    let x = same_of_mul-same_ℤ P.W g.x h.x P.positive (sym a.0 ∙ b.0) in
    let y = same_of_mul-same_ℤ P.W g.y h.y P.positive (sym a.1 ∙ b.1) in
    λ i. record { x = x i; y = y i }

-- segments on either side of a line meet in a common end alone
ends_meet : (line s t : Segment) (P : RationalPoint) → IsOnRight line s → IsOnRight (reversed line) t → IsOn s P → IsOn t P → share_end s t ≡ true
ends_meet line s t P h k on_s on_t =
    let m = mean_of_on s P on_s in
    let n = mean_of_on t P on_t in
    let low = value_low line s h P m.0 m.1 m.2 in
    let high = value_low (reversed line) t k P n.0 n.1 n.2 in
    let back = value_back line P in
    let zero : value line P ≡ pos 0 = omega order in
    let zero_back : value (reversed line) P ≡ pos 0 = omega order in
    let u = end_in_line line s h P m.0 m.1 m.2 zero in
    let v = end_in_line (reversed line) t k P n.0 n.1 n.2 zero_back in
    share_from s t u.0 v.0 u.1 v.1 (one_place P u.0 v.0 u.2 v.2)

-- ---- so segments that cross are on a common side, unless they share an end

abbrev OnOneSide : Segment → Segment → Segment → Type 0
OnOneSide line s t = ((is_left line s ≡ true) × (is_left line t ≡ true)) ⊎ ((is_left (reversed line) s ≡ true) × (is_left (reversed line) t ≡ true))

pub on_one_side : (line s t : Segment) (g : GridPoint) → crossing_pixel s t ≡ Some g → share_end s t ≡ false → OnOneSide line s t
on_one_side line s t g e apart =
    let m = ((crossing_is_computed s t g).0 e).1 in
    let back = reversed line in
    by_test (is_left line s)
    (λ sl. by_test (is_left line t)
    (λ tl. inl (sl, tl))
    (λ tr. by_test (is_left back s)
    (λ sb. inr (sb, right_is_left_back line t (not_left line t tr)))
    (λ sn. clash (share_end s t) (share_end-turned t s (ends_meet line t s m.0 (not_left line t tr) (not_left back s sn) m.2 m.1)) apart)))
    (λ sr. by_test (is_left back t)
    (λ tb. inr (right_is_left_back line s (not_left line s sr), tb))
    (λ tn. clash (share_end s t) (ends_meet line s t m.0 (not_left line s sr) (not_left back t tn) m.1 m.2) apart))
