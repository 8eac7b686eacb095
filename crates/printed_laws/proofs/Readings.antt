-- Counting all rings of a polygon agrees with its exterior and holes.
use Rattle.std.proofs.Common.{◌≡◌, ◌⊎◌, inl, inr, refl, sym, ap, subst, ◌∙◌, arith, ℕ, zero, suc, ◌+◌, ◌≤◌, Bool, true, false, not, cond, ◌&&◌, ◌||◌, List, [], ◌∷◌, ◌++◌, filter, Contains, nat_eq, pos, ℤ}
use Rattle.std.specs.Prelude.{All, ◌<ℤ◌}
use Rattle.std.specs.List.{cons_option, list_any}
use Rattle.std.proofs.lemmas.Bool.{eq-eqb, eqb-true, false_from_ne_true}
use Rattle.std.proofs.lemmas.Int.{ints}
use Rattle.std.proofs.lemmas.List.{append-nil}
use Rattle.std.proofs.lemmas.List.Elements.{All-cons, All-contains, All-contains_itself, All-head, All-nil, All-tail, All-weaker}
use Rattle.std.proofs.lemmas.List.Sorted.{All-permutation, IsPermutation-sym}
use Rattle.lists.proofs.Members.{Contains-flat_map, Contains-map, map-Contains, Contains-head, Contains-later}
use Rattle.plane_model.specs.Points.{GridPoint, RationalPoint, Segment, Path, link_between, reversed, same_segment}
use Rattle.plane_model.specs.Arrangement.{IsArrangement, IsBefore, IsDistinct}
use Rattle.plane_model.specs.Boundary.{boundary_step}
use Rattle.plane_model.specs.Drawing.{Polygon, steps, steps_of_paths}
use Rattle.plane_model.specs.EvenList.{IsEven}
use Rattle.plane_model.specs.Joined.{IsClosed}
use Rattle.plane_model.specs.Parity.{is_below, links_of_paths, odd, rings_hold, xor}
use Rattle.plane_model.specs.Rings.{IsSimple, UsesOnce, turn_at_least}
use Rattle.plane_model.specs.Rotation.{Dart}
use Rattle.plane_parity.proofs.Abscissa.{same_link-true}
use Rattle.plane_parity.proofs.ClosedRun.{closed_run_even}
use Rattle.plane_parity.proofs.SnappedRings.{list_any_same}
use Rattle.plane_faces.specs.Around.{opposite}
use Rattle.plane_faces.specs.Places.{Place, outside, left_of, left_side, right_side, AgreesWherePlacesMeet, IsPlaceOf, border, odd_at}
use Rattle.plane_faces.specs.Rings.{IsRing, dart_of_step, links_of_path}
use Rattle.plane_faces.specs.UsedOnce.{border_steps}
use Rattle.plane_faces.proofs.Connected.{border_parity, connected, in_border, parity_agrees, parity_at_place}
use Rattle.plane_faces.proofs.Crossing.{crossing_law}
use Rattle.plane_faces.proofs.FaceLaws.{place_beside}
use Rattle.plane_faces.proofs.Lists.{count, count-permutation, count_append, count_none, find, odd_count-permutation, odd_of_none}
use Rattle.plane_faces.proofs.Order.{place_exists}
use Rattle.plane_faces.proofs.Orientation.{dart_back, dart_on}
use Rattle.plane_faces.proofs.Parts.{border_in}
use Rattle.plane_faces.proofs.Runs.{dart_between, darts_from, differ_pairwise, links_are, links_of_runs}
use Rattle.plane_faces.proofs.Sorting.{rotations_exist}
use Rattle.region_model.specs.Printed.{polygon_holds}
use Rattle.printed_laws.proofs.Printed.{links_used}
use Rattle.printed_laws.proofs.RingTurn.{IsHeldLeft, across, dart_of_link, same_left, turns_left}

abbrev one : Bool → ℕ
one b = cond b 1 0

-- inside the exterior and in no hole, from the balance
by_left : (u i y : Bool) (t : ℕ) → ((y ≡ false) × (t ≡ 0)) ⊎ ((y ≡ true) × (1 ≤ t)) → one i ≡ t + one u → u ≡ i && not y
by_left true true y t (inl (f, z)) e = sym (ap not f)
by_left true false y t (inl (f, z)) e = absurd (omega arith)
by_left false true y t (inl (f, z)) e = absurd (omega arith)
by_left false false y t s e = refl
by_left true true y t (inr (g, m)) e = absurd (omega arith)
by_left true false y t (inr (g, m)) e = absurd (omega arith)
by_left false true y t (inr (g, m)) e = sym (ap not g)

by_right : (u i y : Bool) (t : ℕ) → 0 ≡ one i + t + one u → u ≡ i && not y
by_right true true y t e = absurd (omega arith)
by_right true false y t e = absurd (omega arith)
by_right false true y t e = absurd (omega arith)
by_right false false y t e = refl

-- ---- the steps of a border have the test on their left alone

abbrev Good : (Place → Bool) → Segment → Type 0
Good f s = (f (left_of (dart_of_step s)) ≡ true) × (f (left_of (opposite (dart_of_step s))) ≡ false)

border_good : (f : Place → Bool) (xs : List Segment) → All (λ l. IsBefore l.start l.stop) xs → All (Good f) (border_steps f xs)
border_good f [] o = All-nil (Good f)
border_good f (l ∷ xs) o = go (f (left_side l)) (f (right_side l)) refl refl (border_good f xs (All-tail (λ l. IsBefore l.start l.stop) l xs o))
  where
    before : IsBefore l.start l.stop
    before = All-head (λ l. IsBefore l.start l.stop) l xs o

    go : (a b : Bool) → f (left_side l) ≡ a → f (right_side l) ≡ b → All (Good f) (border_steps f xs) → All (Good f) (cons_option (boundary_step a b l) (border_steps f xs))
    go true true e g rest = rest
    go true false e g rest = All-cons (Good f) l (border_steps f xs) (subst (λ (d : Dart). (f (left_of d) ≡ true) × (f (left_of (opposite d)) ≡ false)) (sym (dart_on l.start l.stop before)) (e, g)) rest
    go false true e g rest = All-cons (Good f) (reversed l) (border_steps f xs) (subst (λ (d : Dart). (f (left_of d) ≡ true) × (f (left_of (opposite d)) ≡ false)) (sym (dart_back l.start l.stop before)) (g, e)) rest
    go false false e g rest = rest

-- ---- a link stands once at most

once_at_most : (T : List Segment) → IsDistinct T → (l : Segment) → count (same_segment l) T ≤ 1
unfolding count
once_at_most [] distinct l = omega arith
once_at_most (k ∷ ks) distinct l = go (same_segment l k) refl (once_at_most ks distinct.1 l)
  where
    go : (b : Bool) → same_segment l k ≡ b → count (same_segment l) ks ≤ 1 → cond b (suc (count (same_segment l) ks)) (count (same_segment l) ks) ≤ 1
    go false e h = h
    go true e h =
        let none : count (same_segment l) ks ≡ 0 = count_none (same_segment l) ks (λ j c. false_from_ne_true (same_segment l j) (λ g. All-contains (λ (m : Segment). m ≡ k → ⊥) ks j distinct.0 c (same_link-true l j g ∙ sym (same_link-true l k e)))) in
        omega arith

fewer : (t p : Segment → Bool) (xs : List Segment) → count t (filter p xs) ≤ count t xs
unfolding count
fewer t p [] = omega arith
fewer t p (x ∷ xs) = go (p x) (t x) refl (fewer t p xs)
  where
    go : (a b : Bool) → t x ≡ b → count t (filter p xs) ≤ count t xs → count t (cond a (x ∷ filter p xs) (filter p xs)) ≤ cond b (suc (count t xs)) (count t xs)
    go true b e h = subst (λ (y : Bool). cond y (suc (count t (filter p xs))) (count t (filter p xs)) ≤ cond b (suc (count t xs)) (count t xs)) (sym e) (both b h)
      where
        both : (b : Bool) → count t (filter p xs) ≤ count t xs → cond b (suc (count t (filter p xs))) (count t (filter p xs)) ≤ cond b (suc (count t xs)) (count t xs)
        both true h = omega arith
        both false h = h
    go false true e h = omega arith
    go false false e h = h

flip : (j b : Bool) → not j ≡ b → j ≡ not b
flip true b e = ap not e
flip false b e = ap not e

contained : (T : List Segment) (l : Segment) → (count (same_segment l) T ≡ 0 → ⊥) → Contains T l
contained T l some = elim (find (same_segment l) T) [ inl (k, c, e) ↦ subst (Contains T) (same_link-true l k e) c | inr none ↦ absurd (some (count_none (same_segment l) T none)) ]

-- ---- rings with the test on their left

module _ (S : List Segment) (arr : IsArrangement S) (f : Place → Bool) where
  -- a ring of links of S, with the test on the left of its darts
  pub record IsBounding (ring : Path) : Type 0 where
    pub start : GridPoint
    pub next : GridPoint
    pub rest : Path
    pub are : ring ≡ start ∷ next ∷ rest
    pub is_ring : IsRing (start ∷ next ∷ rest)
    pub held : IsHeldLeft f (darts_from start (next ∷ rest))
    pub within : All (Contains S) (links_of_path ring)

  abbrev inside : Path → Place → Bool
  inside ring a = odd_at (links_of_path ring) a

  closed_ring : (ring : Path) → IsBounding ring → IsEven (links_of_path ring)
  closed_ring ring h = subst (λ (path : Path). IsEven (links_of_path path)) (sym h.are) (closed_run_even (h.start ∷ h.next ∷ h.rest) h.is_ring.0)

  -- the side of the inside
  side : (ring : Path) → IsBounding ring → Bool
  side ring h = inside ring (left_of (dart_between h.start h.next))

  within_own : (ring : Path) (h : IsBounding ring) → All (Contains S) (links_of_path (h.start ∷ h.next ∷ h.rest))
  within_own ring h = subst (λ (path : Path). All (Contains S) (links_of_path path)) h.are h.within

  on_left : (ring : Path) (h : IsBounding ring) (x : Dart) → Contains (darts_from h.start (h.next ∷ h.rest)) x → inside ring (left_of x) ≡ side ring h
  unfolding side
  on_left ring h x c =
      ap (λ (path : Path). inside path (left_of x)) h.are
      ∙ same_left S arr f h.start h.next h.rest h.is_ring.0 (differ_pairwise (h.next ∷ h.rest) h.is_ring.1) h.is_ring h.held (within_own ring h) x c
      ∙ sym (ap (λ (path : Path). inside path (left_of (dart_between h.start h.next))) h.are)

  on_right : (ring : Path) (h : IsBounding ring) (x : Dart) → Contains (darts_from h.start (h.next ∷ h.rest)) x → not (inside ring (left_of (opposite x))) ≡ side ring h
  on_right ring h x c =
      ap (λ (path : Path). not (inside path (left_of (opposite x)))) h.are
      ∙ sym (across S arr f h.start h.next h.rest h.is_ring.0 (differ_pairwise (h.next ∷ h.rest) h.is_ring.1) h.is_ring h.held (within_own ring h) x c)
      ∙ sym (ap (λ (path : Path). inside path (left_of x)) h.are)
      ∙ on_left ring h x c

  on_right_of_holes : (ring : Path) (h : IsBounding ring) → turn_at_least ring <ℤ pos 0 → side ring h ≡ false
  unfolding side
  on_right_of_holes ring h right = false_from_ne_true (side ring h) (λ e.
      let left = turns_left S arr f h.start h.next h.rest h.is_ring.0 (differ_pairwise (h.next ∷ h.rest) h.is_ring.1) h.is_ring h.held (within_own ring h)
      (sym (ap (λ (path : Path). inside path (left_of (dart_between h.start h.next))) h.are) ∙ e) in
      both (turn_at_least ring) (subst (λ (path : Path). pos 0 <ℤ turn_at_least path) (sym h.are) left) right)
    where
      both : (t : ℤ) → pos 0 <ℤ t → t <ℤ pos 0 → ⊥
      both t a b = omega (arith, ints)

  -- over a link that the ring doesn't have the inside is one, and over one that it has the inside and the test change
  -- as its side says
  same_over : (ring : Path) → IsBounding ring → (l : Segment) → Contains S l → count (same_segment l) (links_of_path ring) ≡ 0 → inside ring (left_side l) ≡ inside ring (right_side l)
  same_over ring h l c none =
      crossing_law S (links_of_path ring) arr h.within (closed_ring ring h) l c ∙ ap (xor (inside ring (right_side l))) (odd_of_none (same_segment l) (links_of_path ring) none) ∙ by_false (inside ring (right_side l))
    where
      by_false : (b : Bool) → xor b false ≡ b
      by_false true = refl
      by_false false = refl

  record ChangesOver (ring : Path) (b : Bool) (l : Segment) : Type 0 where
    left : inside ring (left_side l) ≡ xor (not b) (f (left_side l))
    right : inside ring (right_side l) ≡ xor (not b) (f (right_side l))

  changes_over : (ring : Path) (h : IsBounding ring) (l : Segment) → (count (same_segment l) (links_of_path ring) ≡ 0 → ⊥) → ChangesOver ring (side ring h) l
  changes_over ring h l some =
      let (x, there, is) = dart_of_link h.start (h.next ∷ h.rest) l (subst (λ (path : Path). Contains (links_of_path path) l) h.are (contained (links_of_path ring) l some)) in
      subst (ChangesOver ring (side ring h)) is (go x.link x.forward (on_left ring h x there) (on_right ring h x there) (h.held x there).0 (h.held x there).1)
    where
      table : (i j b u v : Bool) → i ≡ b → not j ≡ b → u ≡ true → v ≡ false → (i ≡ xor (not b) u) × (j ≡ xor (not b) v)
      table i j true u v e g p q = (e ∙ sym p, flip j true g ∙ sym q)
      table i j false u v e g p q = (e ∙ sym (ap not p), flip j false g ∙ sym (ap not q))

      go : (m : Segment) (w : Bool) → inside ring (left_of (record { link = m; forward = w })) ≡ side ring h → not (inside ring (left_of (record { link = m; forward = not w }))) ≡ side ring h →
          f (left_of (record { link = m; forward = w })) ≡ true → f (left_of (record { link = m; forward = not w })) ≡ false → ChangesOver ring (side ring h) m
      go m true e g p q = let t = table (inside ring (left_side m)) (inside ring (right_side m)) (side ring h) (f (left_side m)) (f (right_side m)) e g p q in record { left = t.0; right = t.1 }
      go m false e g p q = let t = table (inside ring (right_side m)) (inside ring (left_side m)) (side ring h) (f (right_side m)) (f (left_side m)) e g p q in record { left = t.1; right = t.0 }

  -- ---- an exterior and holes

  -- how many holes have a place inside
  total : List Path → Place → ℕ
  total [] a = 0
  total (hole ∷ holes) a = one (inside hole a) + total holes a

  total_outside : (holes : List Path) → total holes outside ≡ 0
  unfolding total
  total_outside [] = refl
  total_outside (hole ∷ holes) = let rest = total_outside holes in omega arith

  total_same : (holes : List Path) (a b : Place) → ((ring : Path) → Contains holes ring → inside ring a ≡ inside ring b) → total holes a ≡ total holes b
  unfolding total
  total_same [] a b h = refl
  total_same (hole ∷ holes) a b h =
      let first : one (inside hole a) ≡ one (inside hole b) = ap one (h hole (Contains-head hole holes)) in
      let rest = total_same holes a b (λ ring c. h ring (Contains-later hole holes ring c)) in
      omega arith

  some_inside : (hs : List Path) (a : Place) → ((list_any (λ (hole : Path). inside hole a) hs ≡ false) × (total hs a ≡ 0)) ⊎ ((list_any (λ (hole : Path). inside hole a) hs ≡ true) × (1 ≤ total hs a))
  unfolding total
  some_inside [] a = inl (refl, refl)
  some_inside (hole ∷ rest) a = go (inside hole a) (some_inside rest a)
    where
      go : (b : Bool) → ((list_any (λ (hole : Path). inside hole a) rest ≡ false) × (total rest a ≡ 0)) ⊎ ((list_any (λ (hole : Path). inside hole a) rest ≡ true) × (1 ≤ total rest a)) →
          (((b || list_any (λ (hole : Path). inside hole a) rest) ≡ false) × (one b + total rest a ≡ 0)) ⊎ (((b || list_any (λ (hole : Path). inside hole a) rest) ≡ true) × (1 ≤ one b + total rest a))
      go true h = inr (refl, omega arith)
      go false (inl h) = let z = h.1 in inl (h.0, omega arith)
      go false (inr h) = let z = h.1 in inr (h.0, omega arith)

  HasHoles : List Path → Type 0
  HasHoles holes = (ring : Path) → Contains holes ring → (h : IsBounding ring) × (side ring h ≡ false)

  holes_over : (holes : List Path) → HasHoles holes → (l : Segment) → Contains S l → count (same_segment l) (links_of_runs holes) ≤ 1 →
      ((count (same_segment l) (links_of_runs holes) ≡ 0) × (total holes (left_side l) ≡ total holes (right_side l)))
      ⊎ ((count (same_segment l) (links_of_runs holes) ≡ 1) × (total holes (left_side l) + one (f (left_side l)) ≡ total holes (right_side l) + one (f (right_side l))))
  unfolding total HasHoles count
  holes_over [] hs l c few = inl (refl, refl)
  holes_over (hole ∷ holes) hs l c few = go (count (same_segment l) (links_of_path hole)) refl (holes_over holes (λ ring m. hs ring (Contains-later hole holes ring m)) l c (let s = sum in omega arith))
    where
      sum : count (same_segment l) (links_of_path hole ++ links_of_runs holes) ≡ count (same_segment l) (links_of_path hole) + count (same_segment l) (links_of_runs holes)
      sum = count_append (same_segment l) (links_of_path hole) (links_of_runs holes)

      own : (h : IsBounding hole) × (side hole h ≡ false)
      own = hs hole (Contains-head hole holes)

      turned : (i j u v : Bool) → i ≡ not u → j ≡ not v → one i + one u ≡ one j + one v
      turned i j u v e g = flat u i e ∙ sym (flat v j g)
        where
          flat : (u i : Bool) → i ≡ not u → one i + one u ≡ 1
          flat true i e = ap (λ (b : Bool). one b + 1) e
          flat false i e = ap (λ (b : Bool). one b + 0) e

      go : (n : ℕ) → count (same_segment l) (links_of_path hole) ≡ n →
          ((count (same_segment l) (links_of_runs holes) ≡ 0) × (total holes (left_side l) ≡ total holes (right_side l)))
          ⊎ ((count (same_segment l) (links_of_runs holes) ≡ 1) × (total holes (left_side l) + one (f (left_side l)) ≡ total holes (right_side l) + one (f (right_side l)))) →
          ((count (same_segment l) (links_of_path hole ++ links_of_runs holes) ≡ 0) × (one (inside hole (left_side l)) + total holes (left_side l) ≡ one (inside hole (right_side l)) + total holes (right_side l)))
          ⊎ ((count (same_segment l) (links_of_path hole ++ links_of_runs holes) ≡ 1) × (one (inside hole (left_side l)) + total holes (left_side l) + one (f (left_side l)) ≡ one (inside hole (right_side l)) + total holes (right_side l) + one (f (right_side l))))
      go zero e (inl (none, same)) =
          let s = sum in
          let i : one (inside hole (left_side l)) ≡ one (inside hole (right_side l)) = ap one (same_over hole own.0 l c e) in
          inl (omega arith, omega arith)
      go zero e (inr (some, same)) =
          let s = sum in
          let i : one (inside hole (left_side l)) ≡ one (inside hole (right_side l)) = ap one (same_over hole own.0 l c e) in
          inr (omega arith, omega arith)
      go (suc n) e (inl (none, same)) =
          let s = sum in
          let change = changes_over hole own.0 l (λ z. let y : suc n ≡ 0 = sym e ∙ z in omega arith) in
          let i = turned (inside hole (left_side l)) (inside hole (right_side l)) (f (left_side l)) (f (right_side l))
          (change.left ∙ ap (λ (b : Bool). xor (not b) (f (left_side l))) own.1) (change.right ∙ ap (λ (b : Bool). xor (not b) (f (right_side l))) own.1) in
          inr (omega arith, omega arith)
      go (suc n) e (inr (some, same)) = let s = sum in absurd (omega arith)

  module _ (distinct : IsDistinct S) (agrees : AgreesWherePlacesMeet S f) (none : f outside ≡ false) (exterior : Path) (holes : List Path) (uses : UsesOnce (border_steps f S) (exterior ∷ holes))
      (outer : IsBounding exterior) (hs : HasHoles holes) where
    counted : (l : Segment) → count (same_segment l) (links_of_path exterior) + count (same_segment l) (links_of_runs holes) ≡ count (same_segment l) (border f S)
    counted l =
        sym (count_append (same_segment l) (links_of_path exterior) (links_of_runs holes)) ∙ ap (count (same_segment l)) (links_are (exterior ∷ holes))
        ∙ count-permutation (same_segment l) (links_of_paths (exterior ∷ holes)) (border f S) (links_used S arr f (exterior ∷ holes) uses)

    few : (l : Segment) → count (same_segment l) (border f S) ≤ 1
    few l = let a = fewer (same_segment l) (λ (k : Segment). xor (f (left_side k)) (f (right_side k))) S in let b = once_at_most S distinct l in omega arith

    same_test : (l : Segment) → Contains S l → count (same_segment l) (border f S) ≡ 0 → f (left_side l) ≡ f (right_side l)
    same_test l c zero_times = alike (f (left_side l)) (f (right_side l)) (sym (in_border S arr distinct (rotations_exist S arr distinct) f agrees none l c) ∙ odd_of_none (same_segment l) (border f S) zero_times)
      where
        alike : (a b : Bool) → xor a b ≡ false → a ≡ b
        alike true true e = refl
        alike true false e = let g : true ≡ false = e in absurd (cc)
        alike false b e = sym e

    -- what is inside the exterior, less the holes, where its inside is on the left; what is inside any of them, where
    -- it is not
    balance : Bool → Place → ℕ × ℕ
    balance true a = (one (inside exterior a), total holes a + one (f a))
    balance false a = (0, one (inside exterior a) + total holes a + one (f a))

    test : Place → Bool
    test a = nat_eq (balance (side exterior outer) a).0 (balance (side exterior outer) a).1

    same_balance : (b : Bool) (a a' : Place) → one (inside exterior a) ≡ one (inside exterior a') → total holes a ≡ total holes a' → one (f a) ≡ one (f a') → nat_eq (balance b a).0 (balance b a).1 ≡ nat_eq (balance b a').0 (balance b a').1
    unfolding balance
    same_balance true a a' e t g = λ i. nat_eq (e i) (t i + g i)
    same_balance false a a' e t g = λ i. nat_eq 0 (e i + t i + g i)

    ring_of : (ring : Path) → Contains holes ring → IsBounding ring
    unfolding HasHoles
    ring_of ring c = (hs ring c).0

    parity : (ring : Path) → IsBounding ring → AgreesWherePlacesMeet S (inside ring)
    parity ring h = parity_agrees S (links_of_path ring) arr h.within (closed_ring ring h)

    test_agrees : AgreesWherePlacesMeet S test
    unfolding test
    test_agrees = record {
      sector = λ d e cd ce next. same_balance (side exterior outer) (left_of d) (left_of (opposite e)) (ap one ((parity exterior outer).sector d e cd ce next))
          (total_same holes (left_of d) (left_of (opposite e)) (λ ring c. (parity ring (ring_of ring c)).sector d e cd ce next)) (ap one (agrees.sector d e cd ce next));
      ray = λ l cl least first a here. same_balance (side exterior outer) (right_side l) a (ap one ((parity exterior outer).ray l cl least first a here))
          (total_same holes (right_side l) a (λ ring c. (parity ring (ring_of ring c)).ray l cl least first a here)) (ap one (agrees.ray l cl least first a here));
    }

    equal_tests : (m n m' n' : ℕ) → (m ≡ n → m' ≡ n') → (m' ≡ n' → m ≡ n) → nat_eq m n ≡ nat_eq m' n'
    equal_tests m n m' n' to from = go (nat_eq m n) (nat_eq m' n') refl refl
      where
        go : (a b : Bool) → nat_eq m n ≡ a → nat_eq m' n' ≡ b → a ≡ b
        go true true e g = refl
        go true false e g = sym (sym g ∙ eq-eqb m' n' (to (eqb-true m n e)))
        go false true e g = sym e ∙ eq-eqb m n (from (eqb-true m' n' g))
        go false false e g = refl

    crossed : (l : Segment) → Contains S l → test (left_side l) ≡ test (right_side l)
    unfolding test balance
    crossed l c = over (side exterior outer) refl (count (same_segment l) (links_of_path exterior)) refl (holes_over holes hs l c (let s = counted l in let w = few l in omega arith))
      where
        over : (b : Bool) → side exterior outer ≡ b → (n : ℕ) → count (same_segment l) (links_of_path exterior) ≡ n →
            ((count (same_segment l) (links_of_runs holes) ≡ 0) × (total holes (left_side l) ≡ total holes (right_side l)))
            ⊎ ((count (same_segment l) (links_of_runs holes) ≡ 1) × (total holes (left_side l) + one (f (left_side l)) ≡ total holes (right_side l) + one (f (right_side l)))) →
            nat_eq (balance b (left_side l)).0 (balance b (left_side l)).1 ≡ nat_eq (balance b (right_side l)).0 (balance b (right_side l)).1
        over b is zero e (inl (no_hole, same)) =
            same_balance b (left_side l) (right_side l) (ap one (same_over exterior outer l c e)) same (ap one (same_test l c (let s = counted l in omega arith)))
        over true is zero e (inr (some, same)) = (λ i. nat_eq (one (same_over exterior outer l c e i)) (same i))
        over false is zero e (inr (some, same)) =
            let i : one (inside exterior (left_side l)) ≡ one (inside exterior (right_side l)) = ap one (same_over exterior outer l c e) in
            equal_tests 0 (one (inside exterior (left_side l)) + total holes (left_side l) + one (f (left_side l))) 0 (one (inside exterior (right_side l)) + total holes (right_side l) + one (f (right_side l))) (λ z. omega arith) (λ z. omega arith)
        over true is (suc n) e (inl (no_hole, same)) =
            let change = changes_over exterior outer l (λ z. let y : suc n ≡ 0 = sym e ∙ z in omega arith) in
            let i : one (inside exterior (left_side l)) ≡ one (f (left_side l)) = ap one (change.left ∙ ap (λ (b : Bool). xor (not b) (f (left_side l))) is) in
            let j : one (inside exterior (right_side l)) ≡ one (f (right_side l)) = ap one (change.right ∙ ap (λ (b : Bool). xor (not b) (f (right_side l))) is) in
            equal_tests (one (inside exterior (left_side l))) (total holes (left_side l) + one (f (left_side l))) (one (inside exterior (right_side l))) (total holes (right_side l) + one (f (right_side l))) (λ z. omega arith) (λ z. omega arith)
        over false is (suc n) e (inl (no_hole, same)) =
            let change = changes_over exterior outer l (λ z. let y : suc n ≡ 0 = sym e ∙ z in omega arith) in
            let i = full (f (left_side l)) (inside exterior (left_side l)) (change.left ∙ ap (λ (b : Bool). xor (not b) (f (left_side l))) is) in
            let j = full (f (right_side l)) (inside exterior (right_side l)) (change.right ∙ ap (λ (b : Bool). xor (not b) (f (right_side l))) is) in
            equal_tests 0 (one (inside exterior (left_side l)) + total holes (left_side l) + one (f (left_side l))) 0 (one (inside exterior (right_side l)) + total holes (right_side l) + one (f (right_side l))) (λ z. omega arith) (λ z. omega arith)
          where
            full : (u i : Bool) → i ≡ not u → one i + one u ≡ 1
            full true i e = ap (λ (b : Bool). one b + 1) e
            full false i e = ap (λ (b : Bool). one b + 0) e
        over b is (suc n) e (inr (some, same)) = absurd (let s = counted l in let w = few l in omega arith)

    balanced : (z : RationalPoint) (a : Place) → IsPlaceOf S z a → (balance (side exterior outer) a).0 ≡ (balance (side exterior outer) a).1
    unfolding test balance total
    balanced z a here =
        eqb-true (balance (side exterior outer) a).0 (balance (side exterior outer) a).1 (connected S arr (rotations_exist S arr distinct) test test_agrees crossed a (place_beside S z a here) ∙ at_outside (side exterior outer))
      where
        at_outside : (b : Bool) → nat_eq (balance b outside).0 (balance b outside).1 ≡ true
        at_outside true = eq-eqb 0 (total holes outside + one (f outside)) (let t = total_outside holes in let g : one (f outside) ≡ 0 = ap one none in omega arith)
        at_outside false = eq-eqb 0 (0 + total holes outside + one (f outside)) (let t = total_outside holes in let g : one (f outside) ≡ 0 = ap one none in omega arith)

    -- the reading by exterior and holes
    agree : (z : RationalPoint) (a : Place) → IsPlaceOf S z a → f a ≡ inside exterior a && not (list_any (λ (hole : Path). inside hole a) holes)
    unfolding balance
    agree z a here = by (side exterior outer) (balanced z a here)
      where
        by : (b : Bool) → (balance b a).0 ≡ (balance b a).1 → f a ≡ inside exterior a && not (list_any (λ (hole : Path). inside hole a) holes)
        by true h = by_left (f a) (inside exterior a) (list_any (λ (hole : Path). inside hole a) holes) (total holes a) (some_inside holes a) h
        by false h = by_right (f a) (inside exterior a) (list_any (λ (hole : Path). inside hole a) holes) (total holes a) h

  -- ---- rings of a polygon that uses a border once

  bounding : (polygon : Polygon) → UsesOnce (border_steps f S) polygon → All IsSimple polygon → (ring : Path) → Contains polygon ring → (turn_at_least ring ≡ pos 0 → ⊥) → IsBounding ring
  bounding polygon uses simple [] c turned = absurd (turned refl)
  bounding polygon uses simple (p ∷ []) c turned = absurd (turned refl)
  bounding polygon uses simple (p ∷ q ∷ rest) c turned = record {
    start = p;
    next = q;
    rest = rest;
    are = refl;
    is_ring = (All-contains IsClosed polygon (p ∷ q ∷ rest) uses.closed c, All-contains IsSimple polygon (p ∷ q ∷ rest) simple c);
    held = λ x k.
        (let (s, there, is) = map-Contains dart_of_step (steps (p ∷ q ∷ rest)) x k in
        let good : Good f s =
        All-contains (Good f) (steps_of_paths polygon) s (All-permutation (Good f) (border_steps f S) (steps_of_paths polygon) uses.steps_once (border_good f S arr.ordered)) (Contains-flat_map steps polygon (p ∷ q ∷ rest) s c there) in
        subst (λ (y : Dart). (f (left_of y) ≡ true) × (f (left_of (opposite y)) ≡ false)) is good);
    within = All-weaker (Contains (links_of_path (p ∷ q ∷ rest))) (Contains S)
        (λ l k.
        (let (s, there, is) = map-Contains link_between (steps (p ∷ q ∷ rest)) l k in
        subst (Contains S) is
        (All-contains (Contains S) (links_of_paths polygon) (link_between s)
        (All-permutation (Contains S) (border f S) (links_of_paths polygon) (IsPermutation-sym (links_of_paths polygon) (border f S) (links_used S arr f polygon uses)) (border_in S f))
        (Contains-map link_between (steps_of_paths polygon) s (Contains-flat_map steps polygon (p ∷ q ∷ rest) s c there)))))
        (links_of_path (p ∷ q ∷ rest)) (All-contains_itself (links_of_path (p ∷ q ∷ rest)));
  }

  -- a ring alone has the points inside it
  one_ring : (ring : Path) → IsBounding ring → (z : RationalPoint) (a : Place) → IsPlaceOf S z a → inside ring a ≡ rings_hold z (ring ∷ [])
  one_ring ring h z a here =
      sym (parity_at_place S (links_of_path ring) arr h.within (closed_ring ring h) z a here)
      ∙ ap (λ (L : List Segment). odd L z) (sym (append-nil (links_of_path ring)) ∙ links_are (ring ∷ []))

  pub readings : IsDistinct S → AgreesWherePlacesMeet S f → f outside ≡ false → (exterior : Path) (holes : List Path) → UsesOnce (border_steps f S) (exterior ∷ holes) → All IsSimple (exterior ∷ holes) →
      pos 0 <ℤ turn_at_least exterior → All (λ hole. turn_at_least hole <ℤ pos 0) holes → (z : RationalPoint) → rings_hold z (exterior ∷ holes) ≡ polygon_holds z (exterior ∷ holes)
  unfolding HasHoles
  readings distinct agrees none exterior holes uses simple left right z =
      let polygon : Polygon = exterior ∷ holes in
      let (a, here) = place_exists S arr z in
      let outer : IsBounding exterior = bounding polygon uses simple exterior (Contains-head exterior holes) (λ e. not_left (turn_at_least exterior) left e) in
      let hs : HasHoles holes = (λ ring c.
      (let turned = All-contains (λ (hole : Path). turn_at_least hole <ℤ pos 0) holes ring right c in
      let h = bounding polygon uses simple ring (Contains-later exterior holes ring c) (λ e. not_right (turn_at_least ring) turned e) in
      (h, on_right_of_holes ring h turned))) in
      odd_count-permutation (is_below z) (links_of_paths polygon) (border f S) (links_used S arr f polygon uses)
      ∙ border_parity S arr distinct (rotations_exist S arr distinct) f agrees none z a here
      ∙ agree distinct agrees none exterior holes uses outer hs z a here
      ∙ (λ i. one_ring exterior outer z a here i && not (list_any_same (λ (hole : Path). inside hole a) (λ (hole : Path). rings_hold z (hole ∷ [])) holes (λ ring c. one_ring ring (hs ring c).0 z a here) i))
    where
      not_left : (t : ℤ) → pos 0 <ℤ t → t ≡ pos 0 → ⊥
      not_left t a b = omega (arith, ints)

      not_right : (t : ℤ) → t <ℤ pos 0 → t ≡ pos 0 → ⊥
      not_right t a b = omega (arith, ints)
