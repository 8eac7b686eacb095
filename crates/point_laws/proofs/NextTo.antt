-- A point near a vertex, just left of a link directed away from it, sees the vertex from the sector on the left of that
-- link.
use Rattle.std.proofs.Common.{◌≡◌, ◌⊎◌, inl, inr, refl, sym, ap, subst, ◌∙◌, arith, ℕ, suc, max, ◌≤◌, Bool, true, false, cond, List}
use Rattle.std.proofs.Math.IntN.{ℤ, pos, nat_abs, ◌+ℤ◌, ◌*ℤ◌, ◌-ℤ◌, neg_ℤ}
use Rattle.std.specs.Prelude.{Contains, int_lt, ◌<ℤ◌}
use Rattle.std.proofs.lemmas.Int.{ints}
use Rattle.std.proofs.lemmas.List.Elements.{All-contains}
use Rattle.plane_algebra.proofs.Ring.{ring, ◌⊞◌, ◌⊟◌, ◌⊠◌, ⊖◌, num, ◌≐◌}
use Rattle.plane_algebra.proofs.Sign.{signs, zero_of_mul}
use Rattle.plane_parity.proofs.Cut.{IsOnSegment-swap, zero_turned}
use Rattle.plane_parity.proofs.Determinant.{turn-swap}
use Rattle.plane_parity.proofs.LinkOrder.{same_grid}
use Rattle.plane_parity.proofs.Place.{SamePlace-sym}
use Rattle.plane_parity.proofs.Sector.{shares_end, still_place}
use Rattle.plane_parity.proofs.AlongLink.{decide_place}
use Rattle.plane_parity.proofs.Passing.{turned_up, turned_down, zero-nonneg}
use Rattle.plane_parity.proofs.Mix.{nonneg_of_positive}
use Rattle.plane_model.specs.Points.{RationalPoint, GridPoint, Segment, step_x, step_y, turn, at, IsOn, IsOnSegment, SamePlace}
use Rattle.plane_model.specs.Arrangement.{IsArrangement, IsBefore, IsEnd}
use Rattle.plane_model.specs.Rotation.{Dart, tail, head, precedes}
use Rattle.plane_model.specs.Sees.{SeesPoint}
use Rattle.plane_faces.specs.Around.{forward_dart, backward_dart}
use Rattle.plane_faces.proofs.Sorting.{total}
use Rattle.plane_parity.proofs.NearPoint.{near, Misses, FromSome, IsAslant, misses_link, from_each, both_below, overcome, step_x-near, neg_positive}
use Rattle.point_laws.proofs.Ways.{way, area, dot, Heads, heads, long_way, area-swap, opposite_ways, Order, Aside}

-- ---- numbers

-- a factor that is not zero is left out
zero_by : (a b : ℤ) → (pos 0 <ℤ a) ⊎ (a <ℤ pos 0) → a *ℤ b ≡ pos 0 → b ≡ pos 0
zero_by a b (inl h) e = zero_of_mul a b h e
zero_by a b (inr h) e = zero_of_mul (neg_ℤ a) b (neg_positive a h) (zero_turned (neg_ℤ a *ℤ b) (a *ℤ b) (go a b) e)
  where
    go : (a b : ℤ) → neg_ℤ a *ℤ b ≡ neg_ℤ (a *ℤ b)
    go = ring 2 (λ a b. ⊖ a ⊠ b ≐ ⊖ (a ⊠ b)) tt

-- ---- the order of rotation by the steps of two darts

turn_of_ways : (p q r : GridPoint) → turn (at p) (at q) (at r) ≡ area (record { x = q.x -ℤ p.x; y = q.y -ℤ p.y }) (record { x = r.x -ℤ p.x; y = r.y -ℤ p.y })
turn_of_ways p q r = go p.x p.y q.x q.y r.x r.y
  where
    go : (a b c d e f : ℤ) → (b *ℤ pos 1 -ℤ d *ℤ pos 1) *ℤ e +ℤ (c *ℤ pos 1 -ℤ a *ℤ pos 1) *ℤ f +ℤ (a *ℤ d -ℤ b *ℤ c) *ℤ pos 1 ≡ (c -ℤ a) *ℤ (f -ℤ b) -ℤ (d -ℤ b) *ℤ (e -ℤ a)
    go = ring 6 (λ a b c d e f. (b ⊠ num (pos 1) ⊟ d ⊠ num (pos 1)) ⊠ e ⊞ (c ⊠ num (pos 1) ⊟ a ⊠ num (pos 1)) ⊠ f ⊞ (a ⊠ d ⊟ b ⊠ c) ⊠ num (pos 1) ≐ (c ⊟ a) ⊠ (f ⊟ b) ⊟ (d ⊟ b) ⊠ (e ⊟ a)) tt

pub by_ways : (d e : Dart) → tail e ≡ tail d → precedes d e ≡ Order d.forward e.forward (int_lt (pos 0) (area (way d) (way e)))
by_ways d e s =
    ap (λ (t : ℤ). Order d.forward e.forward (int_lt (pos 0) t))
    (turn_of_ways (tail d) (head d) (head e) ∙ ap (λ (p : GridPoint). area (way d) (record { x = (head e).x -ℤ p.x; y = (head e).y -ℤ p.y })) (sym s))

-- steps in a line are in order if the first goes ahead, and the second back
ahead_and_back : (f g : Bool) → Order f g false ≡ true → (f ≡ true) × (g ≡ false)
ahead_and_back true true e = let i : false ≡ true = e in absurd (cc)
ahead_and_back true false e = (refl, refl)
ahead_and_back false true e = let i : false ≡ true = e in absurd (cc)
ahead_and_back false false e = let i : false ≡ true = e in absurd (cc)

-- ---- a direction just left of a dart

-- the direction of a, n + 1 times, and of its left normal
abbrev pub beside : ℕ → GridPoint → GridPoint
beside n a = record { x = pos (suc n) *ℤ a.x -ℤ a.y; y = pos (suc n) *ℤ a.y +ℤ a.x }

area_beside : (n : ℕ) (a b : GridPoint) → area b (beside n a) ≡ pos (suc n) *ℤ area b a +ℤ dot b a
area_beside n a b = go (pos (suc n)) b.x b.y a.x a.y
  where
    go : (t a b c d : ℤ) → a *ℤ (t *ℤ d +ℤ c) -ℤ b *ℤ (t *ℤ c -ℤ d) ≡ t *ℤ (a *ℤ d -ℤ b *ℤ c) +ℤ (a *ℤ c +ℤ b *ℤ d)
    go = ring 5 (λ t a b c d. a ⊠ (t ⊠ d ⊞ c) ⊟ b ⊠ (t ⊠ c ⊟ d) ≐ t ⊠ (a ⊠ d ⊟ b ⊠ c) ⊞ (a ⊠ c ⊞ b ⊠ d)) tt

area_itself : (n : ℕ) (a : GridPoint) → area a (beside n a) ≡ dot a a
area_itself n a = go (pos (suc n)) a.x a.y
  where
    go : (t a b : ℤ) → a *ℤ (t *ℤ b +ℤ a) -ℤ b *ℤ (t *ℤ a -ℤ b) ≡ a *ℤ a +ℤ b *ℤ b
    go = ring 3 (λ t a b. a ⊠ (t ⊠ b ⊞ a) ⊟ b ⊠ (t ⊠ a ⊟ b) ≐ a ⊠ a ⊞ b ⊠ b) tt

-- it is aslant: n + 1 times an abscissa that is not 0 outweighs a.y, and the normal of an upright step is level
beside_aslant : (n : ℕ) (f : Bool) (a : GridPoint) → Heads f a → nat_abs a.y ≤ n → IsAslant (beside n a)
beside_aslant n f a h b = elim (signs a.x) [
  | inl i ↦ inl (right (pos (suc n) *ℤ a.x) a.y (overcome n a.x (neg_ℤ a.y) i (size a.y b)))
  | inr r ↦ elim r [
    | inl e ↦ upright f h e
    | inr i ↦ inr (left (pos (suc n) *ℤ neg_ℤ a.x) (pos (suc n) *ℤ a.x) a.y (go (pos (suc n)) a.x) (overcome n (neg_ℤ a.x) a.y (neg_positive a.x i) b))
  ]
]
  where
    size : (a : ℤ) → nat_abs a ≤ n → nat_abs (neg_ℤ a) ≤ n
    size a h = omega (arith, ints)

    right : (a b : ℤ) → pos 0 <ℤ (a +ℤ neg_ℤ b) → pos 0 <ℤ (a -ℤ b)
    right a b h = omega (arith, ints)

    left : (a a' b : ℤ) → a ≡ neg_ℤ a' → pos 0 <ℤ (a +ℤ b) → (a' -ℤ b) <ℤ pos 0
    left a a' b e h = omega (arith, ints)

    go : (t a : ℤ) → t *ℤ neg_ℤ a ≡ neg_ℤ (t *ℤ a)
    go = ring 2 (λ t a. t ⊠ ⊖ a ≐ ⊖ (t ⊠ a)) tt

    none : (t a b : ℤ) → a ≡ pos 0 → t *ℤ a -ℤ b ≡ neg_ℤ b
    none t a b e = rw e (omega (arith, ints))

    still : (a : ℤ) → a ≡ pos 0 → pos 0 <ℤ a → ⊥
    still a e h = omega (arith, ints)

    still' : (a : ℤ) → a ≡ pos 0 → a <ℤ pos 0 → ⊥
    still' a e h = omega (arith, ints)

    upright : (f : Bool) → Heads f a → a.x ≡ pos 0 → IsAslant (beside n a)
    upright true (inl h) e = absurd (still a.x e h)
    upright true (inr h) e = inr (turned_down (pos (suc n) *ℤ a.x -ℤ a.y) a.y (none (pos (suc n)) a.x a.y e) h.1)
    upright false (inl h) e = absurd (still' a.x e h)
    upright false (inr h) e = inl (turned_up (pos (suc n) *ℤ a.x -ℤ a.y) a.y (none (pos (suc n)) a.x a.y e) h.1)

-- ---- beside a dart of an arrangement

module _ (S : List Segment) (arr : IsArrangement S) (d : Dart) (cd : Contains S d.link) where
  dart_heads : (e : Dart) → Contains S e.link → Heads e.forward (way e)
  dart_heads e c = heads e (All-contains (λ l. IsBefore l.start l.stop) S e.link arr.ordered c)

  -- how far the links of S go along the dart, at most
  reach : Segment → ℕ
  reach l = max (nat_abs (dot (way (forward_dart l)) (way d))) (nat_abs (dot (way (backward_dart l)) (way d)))

  reaches : FromSome (λ n. (l : Segment) → Contains S l → reach l ≤ n)
  reaches = from_each (λ l n. reach l ≤ n) S (λ l c. (reach l, λ j len. len))

  pub times : ℕ
  times = max reaches.0 (nat_abs (way d).y)

  in_reach : (e : Dart) → Contains S e.link → nat_abs (dot (way e) (way d)) ≤ times
  unfolding times reach
  in_reach e c = go e.link e.forward (reaches.1 times (both_below reaches.0 (nat_abs (way d).y) times (omega arith)).0 e.link c)
    where
      go : (l : Segment) (f : Bool) → reach l ≤ times → nat_abs (dot (way (record { link = l; forward = f })) (way d)) ≤ times
      go l true h = (both_below (nat_abs (dot (way (forward_dart l)) (way d))) (nat_abs (dot (way (backward_dart l)) (way d))) times h).0
      go l false h = (both_below (nat_abs (dot (way (forward_dart l)) (way d))) (nat_abs (dot (way (backward_dart l)) (way d))) times h).1

  -- the direction of the point
  abbrev pub toward : GridPoint
  toward = beside times (way d)

  pub aslant : IsAslant toward
  unfolding times
  aslant = beside_aslant times d.forward (way d) (dart_heads d cd) (both_below reaches.0 (nat_abs (way d).y) times (omega arith)).1

  pub turned_left : pos 0 <ℤ area (way d) toward
  turned_left = subst (λ (t : ℤ). pos 0 <ℤ t) (sym (area_itself times (way d))) (long_way d.forward (way d) (dart_heads d cd))

  commuted : (a b : GridPoint) → dot a b ≡ dot b a
  commuted a b = go a.x a.y b.x b.y
    where
      go : (a b c d : ℤ) → a *ℤ c +ℤ b *ℤ d ≡ c *ℤ a +ℤ d *ℤ b
      go = ring 4 (λ a b c d. a ⊠ c ⊞ b ⊠ d ≐ c ⊠ a ⊞ d ⊠ b) tt

  -- another link at the vertex, in a line with the dart, goes the other way
  in_line : (e : Dart) → Contains S e.link → tail e ≡ tail d → area (way e) (way d) ≡ pos 0 → (precedes e d ≡ true) ⊎ (precedes d e ≡ true) → dot (way e) (way d) <ℤ pos 0
  in_line e ce s z r = elim r [
    | inl h ↦
        let flags = ahead_and_back e.forward d.forward (ap (Order e.forward d.forward) (sym (flat (area (way e) (way d)) z)) ∙ sym (by_ways e d (sym s)) ∙ h) in
        opposite_ways (way e) (way d) (subst (λ (f : Bool). Heads f (way e)) flags.0 (dart_heads e ce)) (subst (λ (f : Bool). Heads f (way d)) flags.1 (dart_heads d cd)) z
    | inr h ↦
        let z' : area (way d) (way e) ≡ pos 0 = zero_turned (area (way d) (way e)) (area (way e) (way d)) (area-swap (way d) (way e)) z in
        let flags = ahead_and_back d.forward e.forward (ap (Order d.forward e.forward) (sym (flat (area (way d) (way e)) z')) ∙ sym (by_ways d e s) ∙ h) in
        subst (λ (t : ℤ). t <ℤ pos 0) (commuted (way d) (way e))
        (opposite_ways (way d) (way e) (subst (λ (f : Bool). Heads f (way d)) flags.0 (dart_heads d cd)) (subst (λ (f : Bool). Heads f (way e)) flags.1 (dart_heads e ce)) z')
  ]
    where
      flat : (a : ℤ) → a ≡ pos 0 → int_lt (pos 0) a ≡ false
      flat a e = sym (go a e)
        where
          go : (a : ℤ) → a ≡ pos 0 → false ≡ int_lt (pos 0) a
          go a e = omega (arith, ints)

  -- no other link comes between
  between_none : (e : Dart) → Contains S e.link → tail e ≡ tail d → (precedes e d ≡ true) ⊎ (precedes d e ≡ true) → Aside (way d) (way e) toward
  unfolding Aside
  between_none e ce s r = elim (signs (area (way e) (way d))) [
    | inl h ↦ inr (
      subst (λ (t : ℤ). pos 0 <ℤ t) (sym (area_beside times (way d) (way e))) (overcome times (area (way e) (way d)) (dot (way e) (way d)) h (in_reach e ce)),
      turned_down (area (way d) (way e)) (area (way e) (way d)) (area-swap (way d) (way e)) h,
    )
    | inr t ↦ elim t [
      | inl z ↦ inl (
        subst (λ (t : ℤ). t <ℤ pos 0) (sym (area_beside times (way d) (way e))) (flat (pos (suc times)) (area (way e) (way d)) (dot (way e) (way d)) z (in_line e ce s z r)),
        zero-nonneg (area (way d) (way e)) (zero_turned (area (way d) (way e)) (area (way e) (way d)) (area-swap (way d) (way e)) z),
      )
      | inr h ↦ inl (
        subst (λ (t : ℤ). t <ℤ pos 0) (sym (area_beside times (way d) (way e)))
            (turned_down (pos (suc times) *ℤ area (way e) (way d) +ℤ dot (way e) (way d)) (pos (suc times) *ℤ neg_ℤ (area (way e) (way d)) +ℤ neg_ℤ (dot (way e) (way d)))
            (go (pos (suc times)) (area (way e) (way d)) (dot (way e) (way d)))
            (overcome times (neg_ℤ (area (way e) (way d))) (neg_ℤ (dot (way e) (way d))) (neg_positive (area (way e) (way d)) h) (size (dot (way e) (way d)) times (in_reach e ce)))),
        nonneg_of_positive (area (way d) (way e)) (turned_up (area (way d) (way e)) (area (way e) (way d)) (area-swap (way d) (way e)) h),
      )
    ]
  ]
    where
      flat : (t a b : ℤ) → a ≡ pos 0 → b <ℤ pos 0 → (t *ℤ a +ℤ b) <ℤ pos 0
      flat t a b e h = rw e (omega (arith, ints))

      go : (t a b : ℤ) → t *ℤ a +ℤ b ≡ neg_ℤ (t *ℤ neg_ℤ a +ℤ neg_ℤ b)
      go = ring 3 (λ t a b. t ⊠ a ⊞ b ≐ ⊖ (t ⊠ ⊖ a ⊞ ⊖ b)) tt

      size : (a : ℤ) (n : ℕ) → nat_abs a ≤ n → nat_abs (neg_ℤ a) ≤ n
      size a n h = omega (arith, ints)

  -- a dart of S at the vertex is this one, or aside
  pub kinds : (e : Dart) → Contains S e.link → tail e ≡ tail d → (e ≡ d) ⊎ Aside (way d) (way e) toward
  kinds e ce s = elim (total S arr (tail d) e d (ce, s) (cd, refl)) [ inl i ↦ inl i | inr r ↦ inr (between_none e ce s r) ]

  turns_away : (e : Dart) → Contains S e.link → tail e ≡ tail d → (pos 0 <ℤ area (way e) toward) ⊎ (area (way e) toward <ℤ pos 0)
  unfolding Aside
  turns_away e ce s = elim (kinds e ce s) [
    | inl i ↦ inl (subst (λ (x : Dart). pos 0 <ℤ area (way x) toward) (sym i) turned_left)
    | inr t ↦ elim t [ inl h ↦ inr h.0 | inr h ↦ inl h.0 ]
  ]

  -- ---- near the vertex, in that direction

  ends_there : (l : Segment) → IsEnd l (at (tail d)) → (e : Dart) × (e.link ≡ l) × (tail e ≡ tail d)
  ends_there l (inl h) = (forward_dart l, refl, sym (same_grid (tail d) l.start h))
  ends_there l (inr h) = (backward_dart l, refl, sym (same_grid (tail d) l.stop h))

  vertex_is_end : IsEnd d.link (at (tail d))
  vertex_is_end = go d.link d.forward
    where
      go : (l : Segment) (f : Bool) → IsEnd l (at (cond f l.start l.stop))
      go l true = inl (still_place (at l.start))
      go l false = inr (still_place (at l.stop))

  decide_end : (l : Segment) → IsEnd l (at (tail d)) ⊎ (IsEnd l (at (tail d)) → ⊥)
  decide_end l = elim (decide_place (at (tail d)) (at l.start)) [
    | inl h ↦ inl (inl h)
    | inr n ↦ elim (decide_place (at (tail d)) (at l.stop)) [ inl h ↦ inl (inr h) | inr m ↦ inr (λ e. elim e [ inl h ↦ n h | inr h ↦ m h ]) ]
  ]

  -- from some number on the way misses each link that does not end at the vertex
  MissesOthers : Segment → ℕ → Type 0
  MissesOthers l n = (IsEnd l (at (tail d)) → ⊥) → Misses toward (at (tail d)) l n

  misses_others : FromSome (λ n. (l : Segment) → Contains S l → MissesOthers l n)
  unfolding MissesOthers
  misses_others = from_each MissesOthers S (λ l c. elim (decide_end l) [
    | inl h ↦ (0, λ j len n. absurd (n h))
    | inr n ↦
        let m = misses_link toward aslant (at (tail d)) l (All-contains (λ k. IsBefore k.start k.stop) S l arr.ordered c) (λ on. n (shares_end S arr l d.link c cd (at (tail d)) vertex_is_end on)) in
        (m.0, λ j len n. m.1 j len)
  ])

  pub count : ℕ
  count = misses_others.0

  abbrev pub beside_dart : RationalPoint
  beside_dart = near toward (at (tail d)) count

  not_there : SamePlace beside_dart (at (tail d)) → ⊥
  not_there same = no_step toward.x aslant (sym (one toward.x) ∙ sym (step_x-near toward (at (tail d)) count) ∙ (SamePlace-sym beside_dart (at (tail d)) same).0)
    where
      one : (a : ℤ) → pos 1 *ℤ a ≡ a
      one a = omega (arith, ints)

      no_step : (a : ℤ) → (pos 0 <ℤ a) ⊎ (a <ℤ pos 0) → a ≡ pos 0 → ⊥
      no_step a (inl h) e = omega (arith, ints)
      no_step a (inr h) e = omega (arith, ints)

  -- on a link at the vertex and on the way from there lies the vertex alone
  the_vertex : (e : Dart) → Contains S e.link → tail e ≡ tail d → (r : RationalPoint) → turn (at (tail e)) (at (head e)) r ≡ pos 0 → turn beside_dart (at (tail d)) r ≡ pos 0 → SamePlace r (at (tail d))
  unfolding near
  the_vertex e ce s r on way_on = SamePlace-sym (at (tail d)) r (
    zero_by (area (way e) toward) (step_x (at (tail d)) r) (turns_away e ce s) (both (way e).x toward.x (mine ∙ way_on) theirs (in_x (way e).x (way e).y toward.x toward.y (step_x (at (tail d)) r) (step_y (at (tail d)) r))),
    zero_by (area (way e) toward) (step_y (at (tail d)) r) (turns_away e ce s) (both (way e).y toward.y (mine ∙ way_on) theirs (in_y (way e).x (way e).y toward.x toward.y (step_x (at (tail d)) r) (step_y (at (tail d)) r))),
  )
    where
      from_vertex : (a b c d x y w : ℤ) → (b *ℤ pos 1 -ℤ d *ℤ pos 1) *ℤ x +ℤ (c *ℤ pos 1 -ℤ a *ℤ pos 1) *ℤ y +ℤ (a *ℤ d -ℤ b *ℤ c) *ℤ w ≡ (c -ℤ a) *ℤ (y *ℤ pos 1 -ℤ b *ℤ w) -ℤ (d -ℤ b) *ℤ (x *ℤ pos 1 -ℤ a *ℤ w)
      from_vertex = ring 7 (λ a b c d x y w. (b ⊠ num (pos 1) ⊟ d ⊠ num (pos 1)) ⊠ x ⊞ (c ⊠ num (pos 1) ⊟ a ⊠ num (pos 1)) ⊠ y ⊞ (a ⊠ d ⊟ b ⊠ c) ⊠ w ≐ (c ⊟ a) ⊠ (y ⊠ num (pos 1) ⊟ b ⊠ w) ⊟ (d ⊟ b) ⊠ (x ⊠ num (pos 1) ⊟ a ⊠ w)) tt

      to_vertex : (t a b u v x y w : ℤ)
          → v *ℤ (x *ℤ pos 1 -ℤ a *ℤ w) -ℤ u *ℤ (y *ℤ pos 1 -ℤ b *ℤ w)
          ≡ ((t *ℤ b +ℤ v) *ℤ pos 1 -ℤ b *ℤ (t *ℤ pos 1)) *ℤ x +ℤ (a *ℤ (t *ℤ pos 1) -ℤ (t *ℤ a +ℤ u) *ℤ pos 1) *ℤ y +ℤ ((t *ℤ a +ℤ u) *ℤ b -ℤ (t *ℤ b +ℤ v) *ℤ a) *ℤ w
      to_vertex = ring 8 (λ t a b u v x y w. v ⊠ (x ⊠ num (pos 1) ⊟ a ⊠ w) ⊟ u ⊠ (y ⊠ num (pos 1) ⊟ b ⊠ w)
          ≐ ((t ⊠ b ⊞ v) ⊠ num (pos 1) ⊟ b ⊠ (t ⊠ num (pos 1))) ⊠ x ⊞ (a ⊠ (t ⊠ num (pos 1)) ⊟ (t ⊠ a ⊞ u) ⊠ num (pos 1)) ⊠ y ⊞ ((t ⊠ a ⊞ u) ⊠ b ⊟ (t ⊠ b ⊞ v) ⊠ a) ⊠ w) tt

      in_x : (a b c d x y : ℤ) → (a *ℤ d -ℤ b *ℤ c) *ℤ x ≡ a *ℤ (d *ℤ x -ℤ c *ℤ y) +ℤ c *ℤ (a *ℤ y -ℤ b *ℤ x)
      in_x = ring 6 (λ a b c d x y. (a ⊠ d ⊟ b ⊠ c) ⊠ x ≐ a ⊠ (d ⊠ x ⊟ c ⊠ y) ⊞ c ⊠ (a ⊠ y ⊟ b ⊠ x)) tt

      in_y : (a b c d x y : ℤ) → (a *ℤ d -ℤ b *ℤ c) *ℤ y ≡ b *ℤ (d *ℤ x -ℤ c *ℤ y) +ℤ d *ℤ (a *ℤ y -ℤ b *ℤ x)
      in_y = ring 6 (λ a b c d x y. (a ⊠ d ⊟ b ⊠ c) ⊠ y ≐ b ⊠ (d ⊠ x ⊟ c ⊠ y) ⊞ d ⊠ (a ⊠ y ⊟ b ⊠ x)) tt

      mine : toward.y *ℤ step_x (at (tail d)) r -ℤ toward.x *ℤ step_y (at (tail d)) r ≡ turn beside_dart (at (tail d)) r
      mine = to_vertex (pos (suc count)) (tail d).x (tail d).y toward.x toward.y r.X r.Y r.W

      theirs : (way e).x *ℤ step_y (at (tail d)) r -ℤ (way e).y *ℤ step_x (at (tail d)) r ≡ pos 0
      theirs = subst (λ (p : GridPoint). (way e).x *ℤ step_y (at p) r -ℤ (way e).y *ℤ step_x (at p) r ≡ pos 0) s (sym (from_vertex (tail e).x (tail e).y (head e).x (head e).y r.X r.Y r.W) ∙ on)

      both : {a : ℤ} {f g : ℤ} (s t : ℤ) → f ≡ pos 0 → g ≡ pos 0 → a ≡ s *ℤ f +ℤ t *ℤ g → a ≡ pos 0
      both s t e f h = h ∙ rw (e, f) (omega (arith, ints))

  pub sees_vertex : SeesPoint S (tail d) beside_dart
  unfolding MissesOthers count
  sees_vertex = (not_there, clear)
    where
      along_dart : (e : Dart) (r : RationalPoint) → IsOn e.link r → turn (at (tail e)) (at (head e)) r ≡ pos 0
      along_dart e r on = go e.link e.forward on.collinear
        where
          go : (l : Segment) (f : Bool) → turn (at l.start) (at l.stop) r ≡ pos 0 → turn (at (cond f l.start l.stop)) (at (cond f l.stop l.start)) r ≡ pos 0
          go l true h = h
          go l false h = zero_turned (turn (at l.stop) (at l.start) r) (turn (at l.start) (at l.stop) r) (turn-swap (at l.stop) (at l.start) r) h

      clear : (l : Segment) → Contains S l → (r : RationalPoint) → IsOnSegment beside_dart (at (tail d)) r → IsOn l r → SamePlace r (at (tail d))
      clear l c r on onl = elim (decide_end l) [
        | inl h ↦
            let (e, same, at_vertex) = ends_there l h in
            the_vertex e (subst (Contains S) (sym same) c) at_vertex r (along_dart e r (subst (λ (k : Segment). IsOn k r) (sym same) onl)) on.collinear
        | inr n ↦ absurd (misses_others.1 count (omega arith) l c n r (IsOnSegment-swap beside_dart (at (tail d)) r on) onl)
      ]
