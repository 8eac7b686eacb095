-- The plane grown by a whole number, so that a rational point becomes a grid point.
use Rattle.std.proofs.Common.{◌≡◌, ◌⊎◌, inl, inr, refl, sym, ap, subst, ◌∙◌, arith, Bool, true, false, ◌&&◌, List, [], ◌∷◌, map}
use Rattle.std.proofs.Math.IntN.{ℤ, pos, ◌+ℤ◌, ◌*ℤ◌, ◌-ℤ◌}
use Rattle.std.specs.Prelude.{All, Contains, int_le, int_lt, ◌<ℤ◌}
use Rattle.std.proofs.lemmas.Int.{ints}
use Rattle.std.proofs.lemmas.List.Elements.{All-weaker, All-cons, All-map}
use Rattle.lists.proofs.Members.{Contains-map, map-Contains, Contains-later}
use Rattle.plane_algebra.proofs.Differences.{as_dif, same_dif, difs}
use Rattle.plane_algebra.proofs.Sign.{mul-positive, zero_of_mul, positive_of_mul}
use Rattle.plane_parity.proofs.Passing.{same_test}
use Rattle.plane_parity.proofs.AlongLink.{decide_link}
use Rattle.plane_parity.proofs.Abscissa.{same_link-self, same_link-false}
use Rattle.plane_parity.proofs.Telescope.{same_point-true, same_point-self}
use Rattle.plane_faces.proofs.Lists.{contains_cases}
use Rattle.plane_model.specs.Points.{RationalPoint, GridPoint, Segment, step_x, step_y, turn, SameWay, at, IsOn, SamePlace, same_point, same_segment}
use Rattle.plane_model.specs.Parity.{xor, odd_count, is_below, odd}
use Rattle.plane_model.specs.Arrangement.{IsBefore, IsEnd, IsArrangement}
use Rattle.plane_model.specs.EvenList.{IsEven, ends}
use Rattle.plane_model.specs.Sees.{midpoint}
use Rattle.plane_model.specs.Sides.{odd_right}

abbrev pub grow : ℤ → GridPoint → GridPoint
grow w p = record { x = w *ℤ p.x; y = w *ℤ p.y }

abbrev pub grow_link : ℤ → Segment → Segment
grow_link w l = record { start = grow w l.start; stop = grow w l.stop }

abbrev pub shrink : (w : ℤ) → pos 0 <ℤ w → RationalPoint → RationalPoint
shrink w h r = record { X = r.X; Y = r.Y; W = w *ℤ r.W; positive = mul-positive w r.W h r.positive }

-- ---- steps and turns

pub to_grown : (w a x d : ℤ) → x *ℤ pos 1 -ℤ (w *ℤ a) *ℤ d ≡ x *ℤ pos 1 -ℤ a *ℤ (w *ℤ d)
to_grown w a x d = rw (as_dif w, as_dif a, as_dif x, as_dif d, as_dif (pos 1)) (simp difs (same_dif _ _ _ _ (omega arith)))

from_grown : (w a x d : ℤ) → (w *ℤ a) *ℤ d -ℤ x *ℤ pos 1 ≡ a *ℤ (w *ℤ d) -ℤ x *ℤ pos 1
from_grown w a x d = rw (as_dif w, as_dif a, as_dif x, as_dif d, as_dif (pos 1)) (simp difs (same_dif _ _ _ _ (omega arith)))

turn_grown : (w ax ay bx by' x y d : ℤ)
    → ((w *ℤ ay) *ℤ pos 1 -ℤ (w *ℤ by') *ℤ pos 1) *ℤ x +ℤ ((w *ℤ bx) *ℤ pos 1 -ℤ (w *ℤ ax) *ℤ pos 1) *ℤ y +ℤ ((w *ℤ ax) *ℤ (w *ℤ by') -ℤ (w *ℤ ay) *ℤ (w *ℤ bx)) *ℤ d
    ≡ w *ℤ ((ay *ℤ pos 1 -ℤ by' *ℤ pos 1) *ℤ x +ℤ (bx *ℤ pos 1 -ℤ ax *ℤ pos 1) *ℤ y +ℤ (ax *ℤ by' -ℤ ay *ℤ bx) *ℤ (w *ℤ d))
turn_grown w ax ay bx by' x y d =
    rw (as_dif w, as_dif ax, as_dif ay, as_dif bx, as_dif by', as_dif x, as_dif y, as_dif d, as_dif (pos 1)) (simp difs (same_dif _ _ _ _ (omega arith)))

middle_step : (w a b p : ℤ) → (w *ℤ p) *ℤ pos 2 -ℤ (w *ℤ a +ℤ w *ℤ b) *ℤ pos 1 ≡ w *ℤ (p *ℤ pos 2 -ℤ (a +ℤ b) *ℤ pos 1)
middle_step w a b p = rw (as_dif w, as_dif a, as_dif b, as_dif p, as_dif (pos 1), as_dif (pos 2)) (simp difs (same_dif _ _ _ _ (omega arith)))

middle_turn : (w m n d x y x' y' : ℤ) → m *ℤ (w *ℤ x +ℤ w *ℤ x') +ℤ n *ℤ (w *ℤ y +ℤ w *ℤ y') +ℤ d *ℤ (w *ℤ pos 2) ≡ w *ℤ (m *ℤ (x +ℤ x') +ℤ n *ℤ (y +ℤ y') +ℤ d *ℤ pos 2)
middle_turn w m n d x y x' y' =
    rw (as_dif w, as_dif m, as_dif n, as_dif d, as_dif x, as_dif y, as_dif x', as_dif y', as_dif (pos 2)) (simp difs (same_dif _ _ _ _ (omega arith)))

-- ---- signs

less_moved : (a b : ℤ) → (pos 0 <ℤ a → pos 0 <ℤ b) → (pos 0 <ℤ b → pos 0 <ℤ a) → int_lt (pos 0) a ≡ int_lt (pos 0) b
less_moved a b f g = same_test (int_lt (pos 0) a) (int_lt (pos 0) b) (λ e n. clash b (f (means a e)) n) (λ n e. clash a (g (means b e)) n)
  where
    means : (a : ℤ) → int_lt (pos 0) a ≡ true → pos 0 <ℤ a
    means a e = omega (arith, ints)

    clash : (a : ℤ) → pos 0 <ℤ a → int_lt (pos 0) a ≡ false → ⊥
    clash a h e = omega (arith, ints)

pub less_grown : (w t : ℤ) → pos 0 <ℤ w → int_lt (pos 0) (w *ℤ t) ≡ int_lt (pos 0) t
less_grown w t h = less_moved (w *ℤ t) t (positive_of_mul w t h) (mul-positive w t h)

pub below_zero_is : (a : ℤ) (b : ℤ) → int_lt (pos 0) a ≡ int_lt (pos 0) b → int_le a (pos 0) ≡ int_le b (pos 0)
below_zero_is a b e = same_test (int_le a (pos 0)) (int_le b (pos 0)) (λ f g. one a b e f g) (λ f g. two a b e f g)
  where
    one : (a b : ℤ) → int_lt (pos 0) a ≡ int_lt (pos 0) b → int_le a (pos 0) ≡ true → int_le b (pos 0) ≡ false → ⊥
    one a b e f g = let h : int_lt (pos 0) a ≡ true = e ∙ sym (up b g) in low a f h
      where
        up : (b : ℤ) → int_le b (pos 0) ≡ false → true ≡ int_lt (pos 0) b
        up b g = omega (arith, ints)

        low : (a : ℤ) → int_le a (pos 0) ≡ true → int_lt (pos 0) a ≡ true → ⊥
        low a f h = omega (arith, ints)

    two : (a b : ℤ) → int_lt (pos 0) a ≡ int_lt (pos 0) b → int_le a (pos 0) ≡ false → int_le b (pos 0) ≡ true → ⊥
    two a b e f g = one b a (sym e) g f

-- ---- on a link, and its ends

way_same : (a b a' b' : ℤ) → a ≡ a' → b ≡ b' → SameWay a b → SameWay a' b'
way_same a b a' b' e f s = subst (λ (t : ℤ). SameWay t b') e (subst (λ (t : ℤ). SameWay a t) f s)

module _ (w : ℤ) (h : pos 0 <ℤ w) where
  pub on_shrunk : (l : Segment) (r : RationalPoint) → IsOn (grow_link w l) r → IsOn l (shrink w h r)
  on_shrunk l r on = record {
    collinear = zero_of_mul w (turn (at l.start) (at l.stop) (shrink w h r)) h (sym (turn_grown w l.start.x l.start.y l.stop.x l.stop.y r.X r.Y r.W) ∙ on.collinear);
    between_x = way_same (step_x (at (grow w l.start)) r) (step_x r (at (grow w l.stop))) (step_x (at l.start) (shrink w h r)) (step_x (shrink w h r) (at l.stop)) (to_grown w l.start.x r.X r.W) (from_grown w l.stop.x r.X r.W) on.between_x;
    between_y = way_same (step_y (at (grow w l.start)) r) (step_y r (at (grow w l.stop))) (step_y (at l.start) (shrink w h r)) (step_y (shrink w h r) (at l.stop)) (to_grown w l.start.y r.Y r.W) (from_grown w l.stop.y r.Y r.W) on.between_y;
  }

  pub place_grown : (p : GridPoint) (r : RationalPoint) → SamePlace (shrink w h r) (at p) → SamePlace r (at (grow w p))
  place_grown p r s = (from_grown w p.x r.X r.W ∙ s.0, from_grown w p.y r.Y r.W ∙ s.1)

  pub end_grown : (l : Segment) (r : RationalPoint) → IsEnd l (shrink w h r) → IsEnd (grow_link w l) r
  end_grown l r e = elim e [ inl s ↦ inl (place_grown l.start r s) | inr s ↦ inr (place_grown l.stop r s) ]

  before_grown : (p q : GridPoint) → IsBefore p q → IsBefore (grow w p) (grow w q)
  before_grown p q b = elim b [ inl i ↦ inl (up p.x q.x i) | inr i ↦ inr (ap (λ (t : ℤ). w *ℤ t) i.0, up p.y q.y i.1) ]
    where
      spread : (w a b : ℤ) → w *ℤ (b -ℤ a) ≡ w *ℤ b -ℤ w *ℤ a
      spread w a b = rw (as_dif w, as_dif a, as_dif b) (simp difs (same_dif _ _ _ _ (omega arith)))

      up : (a b : ℤ) → a <ℤ b → (w *ℤ a) <ℤ (w *ℤ b)
      up a b i = moved (w *ℤ a) (w *ℤ b) (w *ℤ (b -ℤ a)) (spread w a b) (mul-positive w (b -ℤ a) h (apart a b i))
        where
          apart : (a b : ℤ) → a <ℤ b → pos 0 <ℤ (b -ℤ a)
          apart a b i = omega (arith, ints)

          moved : (a b c : ℤ) → c ≡ b -ℤ a → pos 0 <ℤ c → a <ℤ b
          moved a b c e i = omega (arith, ints)

  same_number : (a b : ℤ) → w *ℤ a ≡ w *ℤ b → a ≡ b
  same_number a b e = back a b (zero_of_mul w (a -ℤ b) h (spread w a b ∙ none (w *ℤ a) (w *ℤ b) e))
    where
      spread : (w a b : ℤ) → w *ℤ (a -ℤ b) ≡ w *ℤ a -ℤ w *ℤ b
      spread w a b = rw (as_dif w, as_dif a, as_dif b) (simp difs (same_dif _ _ _ _ (omega arith)))

      none : (a b : ℤ) → a ≡ b → a -ℤ b ≡ pos 0
      none a b e = omega (arith, ints)

      back : (a b : ℤ) → a -ℤ b ≡ pos 0 → a ≡ b
      back a b e = omega (arith, ints)

  pub same_ungrown : (p q : GridPoint) → grow w p ≡ grow w q → p ≡ q
  same_ungrown p q e =
      let x = same_number p.x q.x (ap (λ (g : GridPoint). g.x) e) in
      let y = same_number p.y q.y (ap (λ (g : GridPoint). g.y) e) in (λ i. record { x = x i; y = y i })

  pub link_ungrown : (k l : Segment) → grow_link w k ≡ grow_link w l → k ≡ l
  link_ungrown k l e =
      let s = same_ungrown k.start l.start (ap (λ (g : Segment). g.start) e) in
      let t = same_ungrown k.stop l.stop (ap (λ (g : Segment). g.stop) e) in (λ i. record { start = s i; stop = t i })

  -- ---- counts

  pub odd_count-grown : (f : Segment → Bool) (L : List Segment) → odd_count f (map (grow_link w) L) ≡ odd_count (λ k. f (grow_link w k)) L
  odd_count-grown f [] = refl
  odd_count-grown f (l ∷ L) = ap (xor (f (grow_link w l))) (odd_count-grown f L)

  pub below_grown : (r : RationalPoint) (k : Segment) → is_below r (grow_link w k) ≡ is_below (shrink w h r) k
  below_grown r k = (λ i. (int_le (from_grown w k.start.x r.X r.W i) (pos 0) && int_lt (pos 0) (from_grown w k.stop.x r.X r.W i))
      && (ap (int_lt (pos 0)) (turn_grown w k.start.x k.start.y k.stop.x k.stop.y r.X r.Y r.W) ∙ less_grown w (turn (at k.start) (at k.stop) (shrink w h r)) h) i)

  pub odd-grown : (L : List Segment) (r : RationalPoint) → odd (map (grow_link w) L) r ≡ odd L (shrink w h r)
  odd-grown L r = odd_count-grown (is_below r) L ∙ same L
    where
      same : (L : List Segment) → odd_count (λ k. is_below r (grow_link w k)) L ≡ odd_count (is_below (shrink w h r)) L
      same [] = refl
      same (k ∷ L) = (λ i. xor (below_grown r k i) (same L i))

  middle_below : (l k : Segment) → is_below (midpoint (grow_link w l)) (grow_link w k) ≡ is_below (midpoint l) k
  middle_below l k =
      let a = middle_step w l.start.x l.stop.x k.start.x in
      let b = middle_step w l.start.x l.stop.x k.stop.x in
      let t = turn_grown w k.start.x k.start.y k.stop.x k.stop.y (w *ℤ l.start.x +ℤ w *ℤ l.stop.x) (w *ℤ l.start.y +ℤ w *ℤ l.stop.y) (pos 2)
      ∙ ap (λ (t : ℤ). w *ℤ t) (middle_turn w (k.start.y *ℤ pos 1 -ℤ k.stop.y *ℤ pos 1) (k.stop.x *ℤ pos 1 -ℤ k.start.x *ℤ pos 1) (k.start.x *ℤ k.stop.y -ℤ k.start.y *ℤ k.stop.x) l.start.x l.start.y l.stop.x l.stop.y) in
      (λ i. ((ap (λ (t : ℤ). int_le t (pos 0)) a ∙ below_zero_is (w *ℤ step_x (midpoint l) (at k.start)) (step_x (midpoint l) (at k.start)) (less_grown w (step_x (midpoint l) (at k.start)) h)) i
      && (ap (int_lt (pos 0)) b ∙ less_grown w (step_x (midpoint l) (at k.stop)) h) i)
      && (ap (int_lt (pos 0)) t ∙ less_grown w (w *ℤ turn (at k.start) (at k.stop) (midpoint l)) h ∙ less_grown w (turn (at k.start) (at k.stop) (midpoint l)) h) i)

  pub right_grown : (L : List Segment) (l : Segment) → odd_right (map (grow_link w) L) (grow_link w l) ≡ odd_right L l
  right_grown L l = odd_count-grown (is_below (midpoint (grow_link w l))) L ∙ same L
    where
      same : (L : List Segment) → odd_count (λ k. is_below (midpoint (grow_link w l)) (grow_link w k)) L ≡ odd_count (is_below (midpoint l)) L
      same [] = refl
      same (k ∷ L) = (λ i. xor (middle_below l k i) (same L i))

  link_grown : (l k : Segment) → same_segment (grow_link w l) (grow_link w k) ≡ same_segment l k
  link_grown l k = elim (decide_link k l) [
    | inl e ↦ subst (λ (j : Segment). same_segment (grow_link w l) (grow_link w j) ≡ same_segment l j) (sym e) (same_link-self (grow_link w l) ∙ sym (same_link-self l))
    | inr n ↦ same_link-false (grow_link w l) (grow_link w k) (λ e. n (link_ungrown k l e)) ∙ sym (same_link-false l k n)
  ]

  pub same_grown : (L : List Segment) (l : Segment) → odd_count (same_segment (grow_link w l)) (map (grow_link w) L) ≡ odd_count (same_segment l) L
  same_grown L l = odd_count-grown (same_segment (grow_link w l)) L ∙ same L
    where
      same : (L : List Segment) → odd_count (λ k. same_segment (grow_link w l) (grow_link w k)) L ≡ odd_count (same_segment l) L
      same [] = refl
      same (k ∷ L) = (λ i. xor (link_grown l k i) (same L i))

  -- ---- even lists

  point_grown : (p q : GridPoint) → same_point (grow w p) (grow w q) ≡ same_point p q
  point_grown p q = same_test (same_point (grow w p) (grow w q)) (same_point p q)
      (λ e f. clash (same_point p q) (subst (λ (r : GridPoint). same_point p r ≡ true) (same_ungrown p q (sym (same_point-true (grow w p) (grow w q) e))) (same_point-self p)) f)
      (λ f e. clash (same_point (grow w p) (grow w q)) (subst (λ (r : GridPoint). same_point (grow w p) r ≡ true) (ap (grow w) (sym (same_point-true p q e))) (same_point-self (grow w p))) f)
    where
      clash : (t : Bool) → t ≡ true → t ≡ false → ⊥
      clash t e f = let g : true ≡ false = sym e ∙ f in absurd (cc)

  ends_grown : (p : GridPoint) (L : List Segment) → odd_count (same_point (grow w p)) (ends (map (grow_link w) L)) ≡ odd_count (same_point p) (ends L)
  ends_grown p [] = refl
  ends_grown p (l ∷ L) = (λ i. xor (point_grown p l.start i) (xor (point_grown p l.stop i) (ends_grown p L i)))

  -- some end is the point, or none is
  at_some : (g : GridPoint) (L : List Segment) → ((p : GridPoint) × (g ≡ grow w p)) ⊎ (odd_count (same_point g) (ends (map (grow_link w) L)) ≡ false)
  at_some g [] = inr refl
  at_some g (l ∷ L) = go (same_point g (grow w l.start)) (same_point g (grow w l.stop)) refl refl (at_some g L)
    where
      go : (a b : Bool) → same_point g (grow w l.start) ≡ a → same_point g (grow w l.stop) ≡ b → ((p : GridPoint) × (g ≡ grow w p)) ⊎ (odd_count (same_point g) (ends (map (grow_link w) L)) ≡ false)
          → ((p : GridPoint) × (g ≡ grow w p)) ⊎ (odd_count (same_point g) (ends (map (grow_link w) (l ∷ L))) ≡ false)
      go true b e f r = inl (l.start, sym (same_point-true g (grow w l.start) e))
      go false true e f r = inl (l.stop, sym (same_point-true g (grow w l.stop) f))
      go false false e f (inl s) = inl s
      go false false e f (inr n) = inr (λ i. xor (e i) (xor (f i) (n i)))

  pub even_grown : (L : List Segment) → IsEven L → IsEven (map (grow_link w) L)
  even_grown L even g = elim (at_some g L) [
    | inl s ↦ let (p, e) = s in ap (λ (r : GridPoint). odd_count (same_point r) (ends (map (grow_link w) L))) e ∙ ends_grown p L ∙ even p
    | inr n ↦ n
  ]

  -- ---- the arrangement, with one link more

  module _ (S : List Segment) (arr : IsArrangement S) (q : Segment) (before : IsBefore q.start q.stop)
      (aside : (l : Segment) → Contains S l → (r : RationalPoint) → IsOn q r → IsOn (grow_link w l) r → IsEnd q r × IsEnd (grow_link w l) r) where
    abbrev pub grown : List Segment
    grown = q ∷ map (grow_link w) S

    pub kind : (k : Segment) → Contains grown k → (k ≡ q) ⊎ ((l : Segment) × Contains S l × (grow_link w l ≡ k))
    kind k c = elim (contains_cases q (map (grow_link w) S) k c) [ inl e ↦ inl e | inr m ↦ inr (map-Contains (grow_link w) S k m) ]

    with_one : (l : Segment) → Contains S l → (k : Segment) → grow_link w l ≡ k → (r : RationalPoint) → IsOn q r → IsOn k r → IsEnd q r × IsEnd k r
    with_one l c k e r onq onk =
        let a = aside l c r onq (subst (λ (j : Segment). IsOn j r) (sym e) onk) in (a.0, subst (λ (j : Segment). IsEnd j r) e a.1)

    meet : (k l : Segment) → (k ≡ q) ⊎ ((j : Segment) × Contains S j × (grow_link w j ≡ k)) → (l ≡ q) ⊎ ((j : Segment) × Contains S j × (grow_link w j ≡ l)) → (r : RationalPoint) → IsOn k r → IsOn l r → (k ≡ l) ⊎ (IsEnd k r × IsEnd l r)
    meet k l (inl e) (inl f) r onk onl = inl (e ∙ sym f)
    meet k l (inl e) (inr t) r onk onl =
        let (j, c, f) = t in
        let a = with_one j c l f r (subst (λ (i : Segment). IsOn i r) e onk) onl in inr (subst (λ (i : Segment). IsEnd i r) (sym e) a.0, a.1)
    meet k l (inr t) (inl f) r onk onl =
        let (j, c, e) = t in
        let a = with_one j c k e r (subst (λ (i : Segment). IsOn i r) f onl) onk in inr (a.1, subst (λ (i : Segment). IsEnd i r) (sym f) a.0)
    meet k l (inr s) (inr t) r onk onl =
        let (i, ci, e) = s in
        let (j, cj, f) = t in
        elim (arr.apart i j ci cj (shrink w h r) (on_shrunk i r (subst (λ (x : Segment). IsOn x r) (sym e) onk)) (on_shrunk j r (subst (λ (x : Segment). IsOn x r) (sym f) onl))) [
          | inl g ↦ inl (sym e ∙ ap (grow_link w) g ∙ f)
          | inr g ↦ inr (subst (λ (x : Segment). IsEnd x r) e (end_grown i r g.0), subst (λ (x : Segment). IsEnd x r) f (end_grown j r g.1))
        ]

    pub grown_arrangement : IsArrangement grown
    grown_arrangement = record {
      ordered = All-cons (λ l. IsBefore l.start l.stop) q (map (grow_link w) S) before
          (All-map (λ l. IsBefore l.start l.stop) (grow_link w) S (All-weaker (λ l. IsBefore l.start l.stop) (λ l. IsBefore (grow w l.start) (grow w l.stop)) (λ l b. before_grown l.start l.stop b) S arr.ordered));
      apart = λ k l ck cl r onk onl. meet k l (kind k ck) (kind l cl) r onk onl;
    }

    pub within_grown : (L : List Segment) → All (Contains S) L → All (Contains grown) (map (grow_link w) L)
    within_grown L within = All-map (Contains grown) (grow_link w) L
        (All-weaker (Contains S) (λ k. Contains grown (grow_link w k)) (λ k c. Contains-later q (map (grow_link w) S) (grow_link w k) (Contains-map (grow_link w) S k c)) L within)
