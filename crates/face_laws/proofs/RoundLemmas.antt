-- Darts round a vertex: the next one in a row that goes counterclockwise from the positive x axis is the next one in
-- rotation.
use Rattle.std.proofs.Common.{◌≡◌, ◌⊎◌, inl, inr, refl, sym, ap, ◌∙◌, subst, arith, ℕ, ◌+◌, ◌<◌, ◌≤◌, Bool, true, false, cond, not, ◌&&◌, ◌||◌, nat_lt, nat_eq, ℤ, pos, ◌-ℤ◌, ◌*ℤ◌, neg_ℤ, List, Contains}
use Rattle.std.specs.Prelude.{◌<ℤ◌, ◌≤ℤ◌, int_lt, int_le, if◌then◌else◌}
use Rattle.std.proofs.lemmas.Int.{ints}
use Rattle.std.proofs.lemmas.Bool.{cases_lt}
use Rattle.std.proofs.lemmas.List.Elements.{All-contains}
use Rattle.plane_algebra.proofs.Ring.{ring, ◌⊞◌, ◌⊟◌, ◌⊠◌, ⊖◌, num, ◌≐◌}
use Rattle.plane_algebra.proofs.Sign.{mul-nonneg, mul-positive}
use Rattle.plane_model.specs.Points.{GridPoint, Segment, at, turn, same_int, same_point, cross}
use Rattle.plane_model.specs.Arrangement.{IsArrangement, IsBefore}
use Rattle.plane_model.specs.Arcs.{goes_up, turns_before}
use Rattle.plane_model.specs.Rotation.{Dart, tail, head, precedes, is_passed, IsNext}
use Rattle.plane_model.proofs.PointOrder.{clash, same_int_from}
use Rattle.plane_faces.specs.Around.{step_of_dart}
use Rattle.plane_faces.proofs.Around.{precedes_once, precedes_not_itself}
use Rattle.plane_faces.proofs.Quarters.{is_low, low_stays, low_before, high_before, low_first}
use Rattle.plane_faces.proofs.Sorting.{total}
use Rattle.arc_table.specs.Around.{comes_round_first}

-- ---- directions of opposite darts do not lie along one line in one half

up_apart : (a b c d : ℤ) → (pos 0 <ℤ a) ⊎ ((a ≡ pos 0) × (pos 0 <ℤ b)) → pos 0 ≤ℤ b → c <ℤ pos 0 → pos 0 <ℤ d → pos 0 <ℤ (a *ℤ d -ℤ b *ℤ c)
up_apart a b c d (inl h) hb hc hd =
    let x = mul-positive a d h hd in
    let y = mul-nonneg b (neg_ℤ c) hb (omega (arith, ints)) in
    let e = ring 2 (λ b c. b ⊠ ⊖ c ≐ ⊖ (b ⊠ c)) tt b c in
    omega (arith, ints)
up_apart a b c d (inr h) hb hc hd =
    let x = mul-nonneg a d (let e = h.0 in omega (arith, ints)) (omega (arith, ints)) in
    let y = mul-positive b (neg_ℤ c) h.1 (omega (arith, ints)) in
    let e = ring 2 (λ b c. b ⊠ ⊖ c ≐ ⊖ (b ⊠ c)) tt b c in
    omega (arith, ints)

down_apart : (a b c d : ℤ) → pos 0 <ℤ a → b <ℤ pos 0 → (c <ℤ pos 0) ⊎ ((c ≡ pos 0) × (d <ℤ pos 0)) → d ≤ℤ pos 0 → (a *ℤ d -ℤ b *ℤ c) <ℤ pos 0
down_apart a b c d ha hb (inl h) hd =
    let x = mul-nonneg a (neg_ℤ d) (omega (arith, ints)) (omega (arith, ints)) in
    let y = mul-positive (neg_ℤ b) (neg_ℤ c) (omega (arith, ints)) (omega (arith, ints)) in
    let e = ring 2 (λ a d. a ⊠ ⊖ d ≐ ⊖ (a ⊠ d)) tt a d in
    let f = ring 2 (λ b c. ⊖ b ⊠ ⊖ c ≐ b ⊠ c) tt b c in
    omega (arith, ints)
down_apart a b c d ha hb (inr h) hd =
    let x = mul-positive a (neg_ℤ d) ha (let g = h.1 in omega (arith, ints)) in
    let y = mul-nonneg (neg_ℤ b) (neg_ℤ c) (omega (arith, ints)) (let g = h.0 in omega (arith, ints)) in
    let e = ring 2 (λ a d. a ⊠ ⊖ d ≐ ⊖ (a ⊠ d)) tt a d in
    let f = ring 2 (λ b c. ⊖ b ⊠ ⊖ c ≐ b ⊠ c) tt b c in
    omega (arith, ints)

abbrev GoesUp : Segment → Type 0
GoesUp s = (s.start.y <ℤ s.stop.y) ⊎ ((s.start.y ≡ s.stop.y) × (s.start.x <ℤ s.stop.x))

abbrev GoesDown : Segment → Type 0
GoesDown s = (s.stop.y <ℤ s.start.y) ⊎ ((s.start.y ≡ s.stop.y) × (s.stop.x ≤ℤ s.start.x))

up_means : (s : Segment) → goes_up s ≡ true → GoesUp s
up_means s e = go (int_lt s.start.y s.stop.y) (same_int s.start.y s.stop.y) refl refl e
  where
    less : (a b : ℤ) → int_lt a b ≡ true → a <ℤ b
    less a b h = omega (arith, ints)

    go : (p q : Bool) → int_lt s.start.y s.stop.y ≡ p → same_int s.start.y s.stop.y ≡ q → (p || (q && int_lt s.start.x s.stop.x)) ≡ true → GoesUp s
    go true q f g h = inl (less s.start.y s.stop.y f)
    go false true f g h = inr (same_int_from s.start.y s.stop.y g, less s.start.x s.stop.x h)
    go false false f g h = absurd (cc)

down_means : (s : Segment) → goes_up s ≡ false → GoesDown s
down_means s e = go (int_lt s.start.y s.stop.y) (same_int s.start.y s.stop.y) (int_lt s.start.x s.stop.x) refl refl refl e
  where
    not_same : (a b : ℤ) → (int_le a b && int_le b a) ≡ false → int_lt a b ≡ false → b <ℤ a
    not_same a b h k = go (int_le a b) (int_le b a) refl refl h
      where
        go : (p q : Bool) → int_le a b ≡ p → int_le b a ≡ q → (p && q) ≡ false → b <ℤ a
        go true true f g h = absurd (cc)
        go true false f g h = omega (arith, ints)
        go false q f g h = omega (arith, ints)

    not_less : (a b : ℤ) → int_lt a b ≡ false → b ≤ℤ a
    not_less a b h = omega (arith, ints)

    go : (p q r : Bool) → int_lt s.start.y s.stop.y ≡ p → same_int s.start.y s.stop.y ≡ q → int_lt s.start.x s.stop.x ≡ r → (p || (q && r)) ≡ false → GoesDown s
    go true q r f g i h = absurd (cc)
    go false true true f g i h = absurd (cc)
    go false true false f g i h = inr (same_int_from s.start.y s.stop.y g, not_less s.start.x s.stop.x i)
    go false false r f g i h = inl (not_same s.start.y s.stop.y g f)

-- a dart that leaves the lesser end of its link, and one that leaves the greater one, in one half
mixed_up : (p q r s : GridPoint) → IsBefore p q → IsBefore s r → GoesUp (record { start = p; stop = q }) → GoesUp (record { start = r; stop = s })
    → pos 0 <ℤ cross (record { start = p; stop = q }) (record { start = r; stop = s })
mixed_up p q r s h k u v = up_apart (q.x -ℤ p.x) (q.y -ℤ p.y) (s.x -ℤ r.x) (s.y -ℤ r.y) (ahead h) (high u) (back k v) (up k v)
  where
    ahead : IsBefore p q → (pos 0 <ℤ (q.x -ℤ p.x)) ⊎ ((q.x -ℤ p.x ≡ pos 0) × (pos 0 <ℤ (q.y -ℤ p.y)))
    ahead (inl h) = inl (omega (arith, ints))
    ahead (inr h) = inr (let e = h.0 in omega (arith, ints), let e = h.1 in omega (arith, ints))

    high : GoesUp (record { start = p; stop = q }) → pos 0 ≤ℤ (q.y -ℤ p.y)
    high (inl h) = omega (arith, ints)
    high (inr h) = let e = h.0 in omega (arith, ints)

    back : IsBefore s r → GoesUp (record { start = r; stop = s }) → (s.x -ℤ r.x) <ℤ pos 0
    back (inl h) v = omega (arith, ints)
    back (inr h) (inl v) = let e = h.1 in absurd (omega (arith, ints))
    back (inr h) (inr v) = let e = h.1 in let f = v.0 in absurd (omega (arith, ints))

    up : IsBefore s r → GoesUp (record { start = r; stop = s }) → pos 0 <ℤ (s.y -ℤ r.y)
    up k (inl v) = omega (arith, ints)
    up (inl h) (inr v) = let e = v.1 in absurd (omega (arith, ints))
    up (inr h) (inr v) = let e = h.0 in let f = v.1 in absurd (omega (arith, ints))

mixed_down : (p q r s : GridPoint) → IsBefore p q → IsBefore s r → GoesDown (record { start = p; stop = q }) → GoesDown (record { start = r; stop = s })
    → cross (record { start = p; stop = q }) (record { start = r; stop = s }) <ℤ pos 0
mixed_down p q r s h k u v = down_apart (q.x -ℤ p.x) (q.y -ℤ p.y) (s.x -ℤ r.x) (s.y -ℤ r.y) (ahead h u) (low h u) (back k) (down v)
  where
    ahead : IsBefore p q → GoesDown (record { start = p; stop = q }) → pos 0 <ℤ (q.x -ℤ p.x)
    ahead (inl h) u = omega (arith, ints)
    ahead (inr h) (inl u) = let e = h.1 in absurd (omega (arith, ints))
    ahead (inr h) (inr u) = let e = h.1 in let f = u.0 in absurd (omega (arith, ints))

    low : IsBefore p q → GoesDown (record { start = p; stop = q }) → (q.y -ℤ p.y) <ℤ pos 0
    low h (inl u) = omega (arith, ints)
    low (inl h) (inr u) = let e = u.1 in absurd (omega (arith, ints))
    low (inr h) (inr u) = let e = h.1 in let f = u.0 in absurd (omega (arith, ints))

    back : IsBefore s r → ((s.x -ℤ r.x) <ℤ pos 0) ⊎ ((s.x -ℤ r.x ≡ pos 0) × ((s.y -ℤ r.y) <ℤ pos 0))
    back (inl h) = inl (omega (arith, ints))
    back (inr h) = inr (let e = h.0 in omega (arith, ints), let e = h.1 in omega (arith, ints))

    down : GoesDown (record { start = r; stop = s }) → (s.y -ℤ r.y) ≤ℤ pos 0
    down (inl h) = omega (arith, ints)
    down (inr h) = let e = h.0 in omega (arith, ints)

pub turn_is : (a b p : GridPoint) → turn (at a) (at b) (at p) ≡ cross (record { start = a; stop = b }) (record { start = a; stop = p })
turn_is a b p = ring 6 (λ ax ay bx by px py. (ay ⊠ num (pos 1) ⊟ by ⊠ num (pos 1)) ⊠ px ⊞ (bx ⊠ num (pos 1) ⊟ ax ⊠ num (pos 1)) ⊠ py ⊞ (ax ⊠ by ⊟ ay ⊠ bx) ⊠ num (pos 1)
    ≐ (bx ⊟ ax) ⊠ (py ⊟ ay) ⊟ (by ⊟ ay) ⊠ (px ⊟ ax)) tt a.x a.y b.x b.y p.x p.y

pub cross_swapped : (s t : Segment) → cross t s ≡ neg_ℤ (cross s t)
cross_swapped s t =
    ring 8 (λ a b c d e f g h. (g ⊟ e) ⊠ (d ⊟ b) ⊟ (h ⊟ f) ⊠ (c ⊟ a) ≐ ⊖ ((c ⊟ a) ⊠ (h ⊟ f) ⊟ (d ⊟ b) ⊠ (g ⊟ e))) tt
    s.start.x s.start.y s.stop.x s.stop.y t.start.x t.start.y t.stop.x t.stop.y

-- ---- two darts of one vertex

module _ (S : List Segment) (arr : IsArrangement S) (p : GridPoint) where
  abbrev pub Here : Dart → Type 0
  Here d = Contains S d.link × (tail d ≡ p)

  -- those that differ, in one half, do not lie along one line
  not_level : (d e : Dart) → Here d → Here e → IsBefore d.link.start d.link.stop → IsBefore e.link.start e.link.stop → goes_up (step_of_dart d) ≡ goes_up (step_of_dart e) → cross (step_of_dart d) (step_of_dart e) ≡ pos 0 → d ≡ e
  not_level d e hd he od oe same level = go d.link d.forward e.link e.forward hd he od oe same level
    where
      none : (a : ℤ) → a ≡ pos 0 → int_lt (pos 0) a ≡ true → ⊥
      none a e h = omega (arith, ints)

      some : (a : ℤ) → a ≡ pos 0 → pos 0 <ℤ a → ⊥
      some a e h = omega (arith, ints)

      less : (a : ℤ) → a ≡ pos 0 → a <ℤ pos 0 → ⊥
      less a e h = omega (arith, ints)

      turned : (a b : ℤ) → a ≡ neg_ℤ b → b ≡ pos 0 → a ≡ pos 0
      turned a b e h = omega (arith, ints)

      one : (d e : Dart) → Here d → Here e → cross (step_of_dart d) (step_of_dart e) ≡ pos 0
          → (precedes d e ≡ int_lt (pos 0) (turn (at (tail d)) (at (head d)) (at (head e)))) → (precedes e d ≡ int_lt (pos 0) (turn (at (tail e)) (at (head e)) (at (head d)))) → d ≡ e
      one d e hd he level f g = elim (total S arr p d e hd he) [
        | inl i ↦ i
        | inr r ↦ elim r [
          | inl h ↦ absurd (none (turn (at (tail d)) (at (head d)) (at (head e)))
              (turn_is (tail d) (head d) (head e) ∙ ap (λ (q : GridPoint). cross (step_of_dart d) (record { start = q; stop = head e })) (hd.1 ∙ sym he.1) ∙ level) (sym f ∙ h))
          | inr h ↦ absurd (none (turn (at (tail e)) (at (head e)) (at (head d)))
              (turn_is (tail e) (head e) (head d) ∙ ap (λ (q : GridPoint). cross (step_of_dart e) (record { start = q; stop = head d })) (he.1 ∙ sym hd.1)
              ∙ turned (cross (step_of_dart e) (step_of_dart d)) (cross (step_of_dart d) (step_of_dart e)) (cross_swapped (step_of_dart d) (step_of_dart e)) level) (sym g ∙ h))
        ]
      ]

      go : (k : Segment) (f : Bool) (l : Segment) (g : Bool) → Here (record { link = k; forward = f }) → Here (record { link = l; forward = g }) → IsBefore k.start k.stop → IsBefore l.start l.stop
          → goes_up (step_of_dart (record { link = k; forward = f })) ≡ goes_up (step_of_dart (record { link = l; forward = g }))
          → cross (step_of_dart (record { link = k; forward = f })) (step_of_dart (record { link = l; forward = g })) ≡ pos 0
          → ◌≡◌ {A = Dart} (record { link = k; forward = f }) (record { link = l; forward = g })
      go k true l true hd he od oe same level = one (record { link = k; forward = true }) (record { link = l; forward = true }) hd he level refl refl
      go k false l false hd he od oe same level = one (record { link = k; forward = false }) (record { link = l; forward = false }) hd he level refl refl
      go k true l false hd he od oe same level = absurd (apart (goes_up (record { start = k.start; stop = k.stop })) refl)
        where
          apart : (b : Bool) → goes_up (record { start = k.start; stop = k.stop }) ≡ b → ⊥
          apart true u = some (cross (record { start = k.start; stop = k.stop }) (record { start = l.stop; stop = l.start })) level
              (mixed_up k.start k.stop l.stop l.start od oe (up_means (record { start = k.start; stop = k.stop }) u) (up_means (record { start = l.stop; stop = l.start }) (sym same ∙ u)))
          apart false u = less (cross (record { start = k.start; stop = k.stop }) (record { start = l.stop; stop = l.start })) level
              (mixed_down k.start k.stop l.stop l.start od oe (down_means (record { start = k.start; stop = k.stop }) u) (down_means (record { start = l.stop; stop = l.start }) (sym same ∙ u)))
      go k false l true hd he od oe same level = absurd (apart (goes_up (record { start = l.start; stop = l.stop })) refl)
        where
          level' : cross (record { start = l.start; stop = l.stop }) (record { start = k.stop; stop = k.start }) ≡ pos 0
          level' = turned (cross (record { start = l.start; stop = l.stop }) (record { start = k.stop; stop = k.start })) (cross (record { start = k.stop; stop = k.start }) (record { start = l.start; stop = l.stop }))
              (cross_swapped (record { start = k.stop; stop = k.start }) (record { start = l.start; stop = l.stop })) level

          apart : (b : Bool) → goes_up (record { start = l.start; stop = l.stop }) ≡ b → ⊥
          apart true u = some (cross (record { start = l.start; stop = l.stop }) (record { start = k.stop; stop = k.start })) level'
              (mixed_up l.start l.stop k.stop k.start oe od (up_means (record { start = l.start; stop = l.stop }) u) (up_means (record { start = k.stop; stop = k.start }) (same ∙ u)))
          apart false u = less (cross (record { start = l.start; stop = l.stop }) (record { start = k.stop; stop = k.start })) level'
              (mixed_down l.start l.stop k.stop k.start oe od (down_means (record { start = l.start; stop = l.stop }) u) (down_means (record { start = k.stop; stop = k.start }) (same ∙ u)))

  -- of two that differ, the one that does not come later turns first
  module _ (d e : Dart) where
    abbrev c : ℤ
    c = cross (step_of_dart d) (step_of_dart e)

    abbrev back : ℤ
    back = cross (step_of_dart e) (step_of_dart d)

    -- what the halves of the two say, where neither stands still
    abbrev Halves : Bool → Bool → Bool
    Halves u v = nat_lt (if v then 0 else 1) (if u then 0 else 1) || (nat_eq (if v then 0 else 1) (if u then 0 else 1) && int_lt (pos 0) back)

    positive : (a b : ℤ) → b ≡ neg_ℤ a → int_lt (pos 0) b ≡ false → (a ≡ pos 0 → ⊥) → int_lt (pos 0) a ≡ true
    positive a b f g n = go (int_lt (pos 0) a) refl
      where
        go : (t : Bool) → int_lt (pos 0) a ≡ t → t ≡ true
        go true i = refl
        go false i = absurd (n (omega (arith, ints)))

    pub turns_first : Here d → Here e → IsBefore d.link.start d.link.stop → IsBefore e.link.start e.link.stop → (d ≡ e → ⊥)
        → same_point (step_of_dart d).start (step_of_dart d).stop ≡ false → same_point (step_of_dart e).start (step_of_dart e).stop ≡ false
        → comes_round_first (step_of_dart e) (step_of_dart d) ≡ false → turns_before (step_of_dart d) (step_of_dart e) ≡ true
    turns_first hd he od oe other moves_d moves_e f = go (goes_up (step_of_dart d)) (goes_up (step_of_dart e)) refl refl
      where
        level : goes_up (step_of_dart d) ≡ goes_up (step_of_dart e) → int_lt (pos 0) back ≡ false → int_lt (pos 0) c ≡ true
        level k f = positive c back (cross_swapped (step_of_dart d) (step_of_dart e)) f (λ z. other (not_level d e hd he od oe k z))

        last : (u v : Bool) → goes_up (step_of_dart d) ≡ u → goes_up (step_of_dart e) ≡ v → Halves u v ≡ false → ((u && not v) || ((u && v || not u && not v) && int_lt (pos 0) c)) ≡ true
        last true true i j f = level (i ∙ sym j) f
        last true false i j f = refl
        last false true i j f = absurd (let g : true ≡ false = f in cc)
        last false false i j f = level (i ∙ sym j) f

        go : (u v : Bool) → goes_up (step_of_dart d) ≡ u → goes_up (step_of_dart e) ≡ v → turns_before (step_of_dart d) (step_of_dart e) ≡ true
        go u v i j =
            (λ t. (i t && not (j t)) || ((i t && j t || not (i t) && not (j t)) && int_lt (pos 0) c))
            ∙ last u v i j ((λ t. nat_lt (if sym j t then 0 else if sym moves_e t then 2 else 1) (if sym i t then 0 else if sym moves_d t then 2 else 1)
            || (nat_eq (if sym j t then 0 else if sym moves_e t then 2 else 1) (if sym i t then 0 else if sym moves_d t then 2 else 1) && int_lt (pos 0) back)) ∙ f)

-- ---- the next dart of a row

-- three low bits that do not fall
three : (a b c : Bool) → (a ≡ true → b ≡ true) → (b ≡ true → c ≡ true) → (G : Bool → Bool → Bool → Type 0) → G false false false → G false false true → G false true true → G true true true → G a b c
three false false false f g G w x y z = w
three false false true f g G w x y z = x
three false true true f g G w x y z = y
three true true true f g G w x y z = z
three false true false f g G w x y z = absurd (let h : false ≡ true = g refl in cc)
three true false c f g G w x y z = absurd (let h : false ≡ true = f refl in cc)
three true true false f g G w x y z = absurd (let h : false ≡ true = g refl in cc)

-- a row of darts at p, at these places: each turns before all later ones, and no dart at p is left out
pub record IsRow (S : List Segment) (p : GridPoint) (IsIn : ℕ → Type 0) (dart : ℕ → Dart) : Type 0 where
  pub here : (k : ℕ) → IsIn k → Contains S (dart k).link × (tail (dart k) ≡ p)
  pub turns : (i j : ℕ) → IsIn i → IsIn j → i < j → turns_before (step_of_dart (dart i)) (step_of_dart (dart j)) ≡ true
  pub all : (c : Dart) → Contains S c.link → tail c ≡ p → (k : ℕ) × IsIn k × (dart k ≡ c)

module _ (S : List Segment) (arr : IsArrangement S) (p : GridPoint) (IsIn : ℕ → Type 0) (dart : ℕ → Dart) (row : IsRow S p IsIn dart) where
  ordered : (k : ℕ) → IsIn k → IsBefore (dart k).link.start (dart k).link.stop
  ordered k h = All-contains (λ l. IsBefore l.start l.stop) S (dart k).link arr.ordered (row.here k h).0

  abbrev is_low_at : ℕ → Bool
  is_low_at k = is_low (dart k)

  module _ (i j : ℕ) (hi : IsIn i) (hj : IsIn j) (ij : i < j) where
    oi : IsBefore (dart i).link.start (dart i).link.stop
    oi = ordered i hi

    oj : IsBefore (dart j).link.start (dart j).link.stop
    oj = ordered j hj

    one_tail : tail (dart j) ≡ tail (dart i)
    one_tail = (row.here j hj).1 ∙ sym (row.here i hi).1

    t : turns_before (step_of_dart (dart i)) (step_of_dart (dart j)) ≡ true
    t = row.turns i j hi hj ij

    stays : is_low_at i ≡ true → is_low_at j ≡ true
    stays = low_stays (dart i) (dart j) oi oj one_tail t

    onward : precedes (dart i) (dart j) ≡ not (not (is_low_at i) && is_low_at j)
    onward = go (is_low_at i) (is_low_at j) refl refl
      where
        go : (a b : Bool) → is_low_at i ≡ a → is_low_at j ≡ b → precedes (dart i) (dart j) ≡ not (not a && b)
        go true true f g = low_before (dart i) (dart j) oi oj one_tail t f g
        go true false f g = clash (is_low_at j) (stays f) g
        go false true f g = precedes_once (dart j) (dart i) (sym one_tail) (low_first (dart j) (dart i) oj oi (sym one_tail) g f)
        go false false f g = high_before (dart i) (dart j) oi oj one_tail t f g

    backward : precedes (dart j) (dart i) ≡ (not (is_low_at i) && is_low_at j)
    backward = go (is_low_at i) (is_low_at j) refl refl
      where
        go : (a b : Bool) → is_low_at i ≡ a → is_low_at j ≡ b → precedes (dart j) (dart i) ≡ (not a && b)
        go true true f g = precedes_once (dart i) (dart j) one_tail (low_before (dart i) (dart j) oi oj one_tail t f g)
        go true false f g = clash (is_low_at j) (stays f) g
        go false true f g = low_first (dart j) (dart i) oj oi (sym one_tail) g f
        go false false f g = precedes_once (dart i) (dart j) one_tail (high_before (dart i) (dart j) oi oj one_tail t f g)

  abbrev passes : Bool → Bool → Bool → Bool
  passes de dc ce = cond de (dc && ce) (dc || ce)

  ends_pass : (i j : ℕ) (c : Dart) → (dart i ≡ c) ⊎ (dart j ≡ c) → is_passed (dart i) (dart j) c ≡ false
  ends_pass i j c (inl e) = subst (λ (d : Dart). is_passed (dart i) (dart j) d ≡ false) e (go (precedes (dart i) (dart j)) (precedes (dart i) (dart i)) (precedes_not_itself (dart i)))
    where
      go : (p q : Bool) → q ≡ false → cond p (q && p) (q || p) ≡ false
      go true false e = refl
      go false false e = refl
      go true true e = absurd (let f : true ≡ false = e in cc)
      go false true e = absurd (let f : true ≡ false = e in cc)
  ends_pass i j c (inr e) = subst (λ (d : Dart). is_passed (dart i) (dart j) d ≡ false) e (go (precedes (dart i) (dart j)) (precedes (dart j) (dart j)) (precedes_not_itself (dart j)))
    where
      go : (p q : Bool) → q ≡ false → cond p (p && q) (p || q) ≡ false
      go true false e = refl
      go false false e = refl
      go true true e = absurd (let f : true ≡ false = e in cc)
      go false true e = absurd (let f : true ≡ false = e in cc)

  -- the next dart of a row is the next in rotation
  pub next_is_next : (i j : ℕ) → i + 1 ≡ j → IsIn i → IsIn j → IsNext S (dart i) (dart j)
  next_is_next i j one hi hj = record { same_tail = (row.here j hj).1 ∙ sym (row.here i hi).1; nothing_between = λ c h e. between c (row.all c h (e ∙ (row.here i hi).1)) }
    where
      ij : i < j
      ij = omega arith

      earlier : (k : ℕ) → IsIn k → k < i → is_passed (dart i) (dart j) (dart k) ≡ false
      earlier k hk ki =
          let kj : k < j = omega arith in
          (λ x. passes (onward i j hi hj ij x) (backward k i hk hi ki x) (onward k j hk hj kj x))
          ∙ three (is_low_at k) (is_low_at i) (is_low_at j) (stays k i hk hi ki) (stays i j hi hj ij)
          (λ a b c. passes (not (not b && c)) (not a && b) (not (not a && c)) ≡ false) refl refl refl refl

      later : (k : ℕ) → IsIn k → j < k → is_passed (dart i) (dart j) (dart k) ≡ false
      later k hk jk =
          let ik : i < k = omega arith in
          (λ x. passes (onward i j hi hj ij x) (onward i k hi hk ik x) (backward j k hj hk jk x))
          ∙ three (is_low_at i) (is_low_at j) (is_low_at k) (stays i j hi hj ij) (stays j k hj hk jk)
          (λ a b c. passes (not (not a && b)) (not (not a && c)) (not b && c) ≡ false) refl refl refl refl

      between : (c : Dart) → (k : ℕ) × IsIn k × (dart k ≡ c) → is_passed (dart i) (dart j) c ≡ false
      between c (k, hk, e) = elim (cases_lt k i) [
        | inl ki ↦ subst (λ (d : Dart). is_passed (dart i) (dart j) d ≡ false) e (earlier k hk ki)
        | inr m ↦ elim (cases_lt j k) [
          | inl jk ↦ subst (λ (d : Dart). is_passed (dart i) (dart j) d ≡ false) e (later k hk jk)
          | inr n ↦ elim (cases_lt i k) [
            | inl o ↦ ends_pass i j c (inr (ap dart (let f : j ≡ k = omega arith in f) ∙ e))
            | inr o ↦ ends_pass i j c (inl (ap dart (let f : i ≡ k = omega arith in f) ∙ e))
          ]
        ]
      ]

  -- and after the last comes the first
  pub first_after_last : (first last : ℕ) → IsIn first → IsIn last → ((k : ℕ) → IsIn k → (first ≤ k) × (k ≤ last)) → IsNext S (dart last) (dart first)
  first_after_last first last hf hl bounds = record {
    same_tail = (row.here first hf).1 ∙ sym (row.here last hl).1;
    nothing_between = λ c h e. between c (row.all c h (e ∙ (row.here last hl).1));
  }
    where
      inside : (k : ℕ) → IsIn k → first < k → k < last → is_passed (dart last) (dart first) (dart k) ≡ false
      inside k hk fk kl =
          let fl : first < last = omega arith in
          (λ x. passes (backward first last hf hl fl x) (backward k last hk hl kl x) (backward first k hf hk fk x))
          ∙ three (is_low_at first) (is_low_at k) (is_low_at last) (stays first k hf hk fk) (stays k last hk hl kl)
          (λ a b c. passes (not a && c) (not b && c) (not a && b) ≡ false) refl refl refl refl

      between : (c : Dart) → (k : ℕ) × IsIn k × (dart k ≡ c) → is_passed (dart last) (dart first) c ≡ false
      between c (k, hk, e) =
          let (a, b) = bounds k hk in
          elim (cases_lt first k) [
            | inl m ↦ elim (cases_lt k last) [
              | inl n ↦ subst (λ (d : Dart). is_passed (dart last) (dart first) d ≡ false) e (inside k hk m n)
              | inr n ↦ ends_pass last first c (inl (ap dart (let f : last ≡ k = omega arith in f) ∙ e))
            ]
            | inr m ↦ ends_pass last first c (inr (ap dart (let f : first ≡ k = omega arith in f) ∙ e))
          ]
