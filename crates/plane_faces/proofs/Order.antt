-- The order of vertices, and the topmost link below a point.
use Rattle.std.proofs.Common.{◌≡◌, ◌⊎◌, inl, inr, ℕ, ◌<◌, refl, sym, subst, ◌∙◌, arith, Bool, true, false, ◌&&◌, List, [], ◌∷◌}
use Rattle.std.proofs.Math.IntN.{ℤ, pos, ◌*ℤ◌, ◌-ℤ◌}
use Rattle.std.specs.Prelude.{Contains, int_lt, int_le, ◌<ℤ◌}
use Rattle.std.proofs.lemmas.Int.{ints}
use Rattle.std.proofs.lemmas.Bool.{and_parts}
use Rattle.lists.proofs.Members.{Contains-head, Contains-later, Contains-nil}
use Rattle.plane_algebra.proofs.Tests.{by_test}
use Rattle.plane_model.proofs.PointOrder.{is_before-IsStrictOrder, before_from, before_to}
use Rattle.plane_parity.proofs.AlongLink.{decide_link}
use Rattle.plane_parity.proofs.LinkOrder.{is_under-trans, is_under-total}
use Rattle.plane_parity.proofs.VerticalLine.{sign_at_start}
use Rattle.plane_model.specs.Points.{RationalPoint, GridPoint, Segment, step_x, turn, at, is_before}
use Rattle.plane_model.specs.Arrangement.{IsBefore, IsArrangement}
use Rattle.plane_model.specs.Parity.{is_below, is_over}
use Rattle.plane_model.specs.Below.{is_under}
use Rattle.plane_faces.specs.Places.{Place, outside, left_side, IsPlaceOf}
use Rattle.plane_faces.proofs.Lists.{contains_cases, count, count_lt}

-- ---- vertices in order by x, then y

pub before_trans : (p q r : GridPoint) → IsBefore p q → IsBefore q r → IsBefore p r
before_trans p q r h k = before_from p r (is_before-IsStrictOrder.trans p q r (before_to p q h) (before_to q r k))

pub before_not_itself : (p : GridPoint) → IsBefore p p → ⊥
before_not_itself p h = is_before-IsStrictOrder.irreflexive p (before_to p p h)

pub before_not_back : (p q : GridPoint) → IsBefore p q → is_before q p ≡ false
before_not_back p q h = by_test (is_before q p) (λ e. absurd (before_not_itself p (before_trans p q p h (before_from q p e)))) (λ e. e)

pub order_cases : (p q : GridPoint) → IsBefore p q ⊎ ((p ≡ q) ⊎ IsBefore q p)
order_cases p q = by_test (is_before p q) (λ e. inl (before_from p q e))
    (λ e. by_test (is_before q p) (λ f. inr (inr (before_from q p f))) (λ f. inr (inl (is_before-IsStrictOrder.total p q e f))))

-- the number of links that start before p
pub rank : List Segment → GridPoint → ℕ
rank S p = count (λ l. is_before l.start p) S

pub rank_lt : (S : List Segment) (l : Segment) → Contains S l → (p : GridPoint) → IsBefore l.start p → rank S l.start < rank S p
unfolding rank
rank_lt S l c p h = count_lt (λ k. is_before k.start l.start) (λ k. is_before k.start p) S
    (λ k ck e. before_to k.start p (before_trans k.start l.start p (before_from k.start l.start e) h)) l c (not_itself (is_before l.start l.start) refl) (before_to l.start p h)
  where
    not_itself : (b : Bool) → is_before l.start l.start ≡ b → b ≡ false
    not_itself true e = absurd (before_not_itself l.start (before_from l.start l.start e))
    not_itself false e = refl

-- ---- the topmost link below a point

module _ (S : List Segment) (arr : IsArrangement S) (z : RationalPoint) where
  abbrev IsBelow : Segment → Type 0
  IsBelow k = is_below z k ≡ true

  pub below_over : (k : Segment) → IsBelow k → is_over z k ≡ true
  below_over k e = (and_parts (is_over z k) (int_lt (pos 0) (turn (at k.start) (at k.stop) z)) e).0

  Top : List Segment → Segment → Type 0
  Top xs l = Contains S l × IsBelow l × ((k : Segment) → Contains xs k → IsBelow k → (k ≡ l) ⊎ (is_under z l k ≡ true))

  topmost_of : (xs : List Segment) → ((k : Segment) → Contains xs k → Contains S k) → ((l : Segment) × Top xs l) ⊎ ((k : Segment) → Contains xs k → is_below z k ≡ false)
  unfolding Top
  topmost_of [] within = inr (λ k c. absurd (Contains-nil k c))
  topmost_of (x ∷ xs) within = go (is_below z x) refl (topmost_of xs (λ k c. within k (Contains-later x xs k c)))
    where
      higher : (t : Segment) → Top xs t → IsBelow x → (x ≡ t) ⊎ (x ≡ t → ⊥) → (b : Bool) → is_under z t x ≡ b → (l : Segment) × Top (x ∷ xs) l
      higher t h e d true u = (t, (h.0, h.1, λ k c i. elim (contains_cases x xs k c) [ inl g ↦ inr (subst (λ (j : Segment). is_under z t j ≡ true) (sym g) u) | inr c' ↦ h.2 k c' i ]))
      higher t h e (inl same) false u = (t, (h.0, h.1, λ k c i. elim (contains_cases x xs k c) [ inl g ↦ inl (g ∙ same) | inr c' ↦ h.2 k c' i ]))
      higher t h e (inr other) false u =
          let v : is_under z x t ≡ true = is_under-total S arr x t (within x (Contains-head x xs)) h.0 z (below_over x e) (below_over t h.1) other u in (
            x,
            (
              within x (Contains-head x xs),
              e,
              λ k c i. elim (contains_cases x xs k c) [
                | inl g ↦ inl g
                | inr c' ↦ elim (h.2 k c' i) [
                  | inl g ↦ inr (subst (λ (j : Segment). is_under z x j ≡ true) (sym g) v)
                  | inr w ↦ inr (is_under-trans z k t x (below_over x e) w v)
                ]
              ],
            ),
          )

      go : (b : Bool) → is_below z x ≡ b → ((l : Segment) × Top xs l) ⊎ ((k : Segment) → Contains xs k → is_below z k ≡ false) → ((l : Segment) × Top (x ∷ xs) l) ⊎ ((k : Segment) → Contains (x ∷ xs) k → is_below z k ≡ false)
      go false e (inl t) = inl (t.0, (t.1.0, t.1.1, λ k c i. elim (contains_cases x xs k c) [ inl g ↦ absurd (clash k g i) | inr c' ↦ t.1.2 k c' i ]))
        where
          clash : (k : Segment) → k ≡ x → is_below z k ≡ true → ⊥
          clash k g i = let h : true ≡ false = sym (subst (λ (j : Segment). is_below z j ≡ true) g i) ∙ e in absurd (cc)
      go false e (inr n) = inr (λ k c. elim (contains_cases x xs k c) [ inl g ↦ subst (λ (j : Segment). is_below z j ≡ false) (sym g) e | inr c' ↦ n k c' ])
      go true e (inl t) = inl (higher t.0 t.1 e (decide_link x t.0) (is_under z t.0 x) refl)
      go true e (inr n) = inl (x, (within x (Contains-head x xs), e, λ k c i. elim (contains_cases x xs k c) [ inl g ↦ inl g | inr c' ↦ absurd (clash k c' i) ]))
        where
          clash : (k : Segment) → Contains xs k → is_below z k ≡ true → ⊥
          clash k c i = let h : true ≡ false = sym i ∙ n k c in absurd (cc)

  -- each rational point has a place
  pub place_exists : (a : Place) × IsPlaceOf S z a
  unfolding Top
  place_exists = elim (topmost_of S (λ k c. c)) [
    | inl t ↦ (left_side t.0, (refl, t.1.0, record { below = t.1.1; topmost = t.1.2 }))
    | inr n ↦ (outside, n)
  ]

-- ---- the topmost link below a vertex starts at an earlier vertex

pub below_starts_before : (p : GridPoint) (l : Segment) → is_below (at p) l ≡ true → IsBefore l.start p
below_starts_before p l e =
    let h = and_parts (int_le (step_x (at p) (at l.start)) (pos 0) && int_lt (pos 0) (step_x (at p) (at l.stop))) (int_lt (pos 0) (turn (at l.start) (at l.stop) (at p))) e in
    let o = and_parts (int_le (step_x (at p) (at l.start)) (pos 0)) (int_lt (pos 0) (step_x (at p) (at l.stop))) h.0 in
    go (int_lt l.start.x p.x) refl o.0 o.1 h.1
  where
    low : (a b : ℤ) → int_lt a b ≡ true → a <ℤ b
    low a b e = omega (arith, ints)

    same : (a b : ℤ) → int_le (a *ℤ pos 1 -ℤ b *ℤ pos 1) (pos 0) ≡ true → int_lt a b ≡ false → a ≡ b
    same a b h e = omega (arith, ints)

    up : (a b : ℤ) → pos 0 <ℤ (b *ℤ pos 1 -ℤ a *ℤ pos 1) → a <ℤ b
    up a b h = omega (arith, ints)

    still : (a b : ℤ) → a ≡ b → b *ℤ pos 1 -ℤ a *ℤ pos 1 ≡ pos 0
    still a b h = omega (arith, ints)

    long : (a b c : ℤ) → a ≡ b → int_lt (pos 0) (c *ℤ pos 1 -ℤ b *ℤ pos 1) ≡ true → pos 0 <ℤ (c *ℤ pos 1 -ℤ a *ℤ pos 1)
    long a b c e h = omega (arith, ints)

    positive : (a : ℤ) → int_lt (pos 0) a ≡ true → pos 0 <ℤ a
    positive a h = omega (arith, ints)

    go : (b : Bool) → int_lt l.start.x p.x ≡ b → int_le (step_x (at p) (at l.start)) (pos 0) ≡ true → int_lt (pos 0) (step_x (at p) (at l.stop)) ≡ true → int_lt (pos 0) (turn (at l.start) (at l.stop) (at p)) ≡ true → IsBefore l.start p
    go true f g h k = inl (low l.start.x p.x f)
    go false f g h k =
        let e : l.start.x ≡ p.x = same l.start.x p.x g f in
        inr (e, up l.start.y p.y ((sign_at_start (at p) l (long l.start.x p.x l.stop.x e h) (still l.start.x p.x e)).0 (positive (turn (at l.start) (at l.stop) (at p)) k)))
