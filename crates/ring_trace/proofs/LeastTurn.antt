-- How a closed path turns at its least point.
use Rattle.std.proofs.Common.{◌≡◌, inl, inr, refl, sym, ap, ◌∙◌, subst, arith, ℕ, zero, suc, ◌+◌, ◌-◌, ◌<◌, Bool, true, false, cond, List, [], ◌∷◌, ◌++◌, length, get_or, take, reverse, Contains}
use Rattle.std.specs.Prelude.{nat_lt, if◌then◌else◌}
use Rattle.std.proofs.lemmas.Bool.{cases_lt, cases_Bool, false_from_ne_true, lt-ltb, le-ltb}
use Rattle.std.proofs.lemmas.List.{get_or_append_left, get_or_push, get_or_default, get_or-reverse, length_push}
use Rattle.std.proofs.lemmas.List.Elements.{Contains-get_or}
use Rattle.lists.specs.Lists.{least_of, without_last}
use Rattle.lists.proofs.Ascending.{IsStrictOrder}
use Rattle.lists.proofs.Members.{Contains-head, Contains-later, Contains-cases, Contains-nil}
use Rattle.plane_model.specs.Points.{GridPoint, Path, at, turn, same_point, is_before}
use Rattle.plane_model.specs.Arcs.{SignedArc, points_of}
use Rattle.plane_model.specs.Rings.{turn_at, turn_at_least}
use Rattle.plane_model.proofs.PointOrder.{clash, is_before-IsStrictOrder, same_point_from, same_point_to}
use Rattle.arc_table.specs.Direction.{point_at}
use Rattle.arc_table.proofs.RowTable.{before_later}
use Rattle.arc_table.proofs.TurnOrder.{not_back}
use Rattle.ring_trace.specs.Turns.{IsFirstLeast}

-- ---- order of points

not_itself : (p : GridPoint) → is_before p p ≡ false
not_itself p = false_from_ne_true (is_before p p) (is_before-IsStrictOrder.irreflexive p)

-- ---- the first least point

pub least_lower : (points : Path) (k m : ℕ) → IsFirstLeast points k m → is_before (point_at points k) (point_at points m) ≡ true → IsFirstLeast points (k + 1) k
least_lower points k m h e = record {
  later = (let a = h.later in let b = h.within in omega arith);
  within = omega arith;
  least = λ j l n. elim (cases_lt j k) [
    | inl less ↦ not_back (point_at points k) (point_at points j) (before_later (point_at points k) (point_at points m) (point_at points j) e (h.least j l less))
    | inr more ↦ subst (λ (i : ℕ). is_before (point_at points i) (point_at points k) ≡ false) (let f : k ≡ j = omega arith in f) (not_itself (point_at points k))
  ];
  first = λ j l n. before_later (point_at points k) (point_at points m) (point_at points j) e (h.least j l n);
}

pub least_same : (points : Path) (k m : ℕ) → IsFirstLeast points k m → is_before (point_at points k) (point_at points m) ≡ false → IsFirstLeast points (k + 1) m
least_same points k m h e = record {
  later = h.later;
  within = (let b = h.within in omega arith);
  least = λ j l n. elim (cases_lt j k) [
    | inl less ↦ h.least j l less
    | inr more ↦ subst (λ (i : ℕ). is_before (point_at points i) (point_at points m) ≡ false) (let f : k ≡ j = omega arith in f) e
  ];
  first = h.first;
}

-- ---- the least of a list

module _ {A : Type 0} (before : A → A → Bool) (o : IsStrictOrder before) where
  least_in : (d x : A) (xs : List A) → Contains (x ∷ xs) (least_of before d (x ∷ xs))
  least_in d x [] = Contains-head x []
  least_in d x (y ∷ ys) = go (before (least_of before d (y ∷ ys)) x) (least_in d y ys)
    where
      go : (b : Bool) → Contains (y ∷ ys) (least_of before d (y ∷ ys)) → Contains (x ∷ y ∷ ys) (cond b (least_of before d (y ∷ ys)) x)
      go true c = Contains-later x (y ∷ ys) (least_of before d (y ∷ ys)) c
      go false c = Contains-head x (y ∷ ys)

  low_more : (x m : A) (ms : List A) → ((z : A) → Contains ms z → before z m ≡ false) → (b : Bool) → before m x ≡ b → (z : A) → Contains (x ∷ ms) z → before z (cond b m x) ≡ false
  low_more x m ms low true e z c = elim (Contains-cases x ms z c) [
    | inl f ↦ subst (λ (w : A). before w m ≡ false) f (false_from_ne_true (before x m) (λ g. o.irreflexive x (o.trans x m x g e)))
    | inr n ↦ low z n
  ]
  low_more x m ms low false e z c = elim (Contains-cases x ms z c) [
    | inl f ↦ subst (λ (w : A). before w x ≡ false) f (false_from_ne_true (before x x) (o.irreflexive x))
    | inr n ↦ false_from_ne_true (before z x) (λ g. below g (low z n))
  ]
    where
      below : before z x ≡ true → before z m ≡ false → ⊥
      below g h = elim (cases_Bool (before m z)) [
        | inl k ↦ clash (before m x) (o.trans m z x k g) e
        | inr k ↦ clash (before m x) (subst (λ (w : A). before w x ≡ true) (sym (o.total m z k h)) g) e
      ]

  least_low : (d x : A) (xs : List A) (z : A) → Contains (x ∷ xs) z → before z (least_of before d (x ∷ xs)) ≡ false
  least_low d x [] z c = elim (Contains-cases x [] z c) [
    | inl e ↦ subst (λ (y : A). before y x ≡ false) e (false_from_ne_true (before x x) (o.irreflexive x))
    | inr n ↦ Contains-nil z n
  ]
  least_low d x (y ∷ ys) z c = low_more x (least_of before d (y ∷ ys)) (y ∷ ys) (λ w n. least_low d y ys w n) (before (least_of before d (y ∷ ys)) x) refl z c

  least_is : (d x : A) (xs : List A) (z : A) → Contains (x ∷ xs) z → ((y : A) → Contains (x ∷ xs) y → before y z ≡ false) → least_of before d (x ∷ xs) ≡ z
  least_is d x xs z c low = o.total (least_of before d (x ∷ xs)) z (low (least_of before d (x ∷ xs)) (least_in d x xs)) (least_low d x xs z c)

-- ---- the turn

found_at : (m : GridPoint) (ys : Path) (k : ℕ) → 0 < k → k + 1 < length ys → same_point (point_at ys k) m ≡ true → ((j : ℕ) → 0 < j → j < k → same_point (point_at ys j) m ≡ false) →
    turn_at m ys ≡ turn (at (point_at ys (k - 1))) (at (point_at ys k)) (at (point_at ys (k + 1)))
found_at m [] k l within e others = absurd (omega arith)
found_at m (a ∷ []) k l within e others = absurd (omega arith)
found_at m (a ∷ b ∷ []) k l within e others = absurd (omega arith)
found_at m (a ∷ b ∷ c ∷ rest) zero l within e others = absurd (omega arith)
found_at m (a ∷ b ∷ c ∷ rest) (suc zero) l within e others = ap (λ (t : Bool). cond t (turn (at a) (at b) (at c)) (turn_at m (b ∷ c ∷ rest))) e
found_at m (a ∷ b ∷ c ∷ rest) (suc (suc k)) l within e others =
    ap (λ (t : Bool). cond t (turn (at a) (at b) (at c)) (turn_at m (b ∷ c ∷ rest))) (others 1 (omega arith) (omega arith))
    ∙ found_at m (b ∷ c ∷ rest) (suc k) (omega arith) (omega arith) e (λ j p q. others (suc j) (omega arith) (omega arith))
    ∙ (let f : suc (suc k - 1) ≡ suc (suc k) - 1 = omega arith in let g : suc (suc k + 1) ≡ suc (suc k) + 1 = omega arith in
    λ i. turn (at (point_at (a ∷ b ∷ c ∷ rest) (f i))) (at (point_at (b ∷ c ∷ rest) (suc k))) (at (point_at (a ∷ b ∷ c ∷ rest) (g i))))

-- where the point after a place stands, where the last of a closed path is the first too
abbrev pub after_place : Path → ℕ → ℕ
after_place points k = if nat_lt (k + 1) (length points) then k + 1 else 1

module _ (p q : GridPoint) (rest : Path) (k : ℕ) (h : IsFirstLeast (p ∷ q ∷ rest) (length (p ∷ q ∷ rest)) k) where
  abbrev points : Path
  points = p ∷ q ∷ rest

  abbrev round : Path
  round = points ++ q ∷ []

  at_place : (j : ℕ) → j < length points → point_at round j ≡ point_at points j
  at_place j l = get_or_append_left points (q ∷ []) (point_at [] 0) j l

  after : point_at round (k + 1) ≡ point_at points (after_place points k)
  after = elim (cases_lt (k + 1) (length points)) [
    | inl less ↦ at_place (k + 1) less ∙ sym (ap (λ (b : Bool). point_at points (cond b (k + 1) 1)) (lt-ltb (k + 1) (length points) less))
    | inr more ↦
        (let l = h.within in
        let e : k + 1 ≡ length points = omega arith in
        ap (point_at round) e ∙ get_or_push points q (point_at [] 0) (length points) refl ∙ sym (ap (λ (b : Bool). point_at points (cond b (k + 1) 1)) (le-ltb (k + 1) (length points) more)))
  ]

  least_there : least_of is_before p (q ∷ rest) ≡ point_at points k
  least_there = least_is is_before is_before-IsStrictOrder p q rest (point_at points k) listed low
    where
      listed : Contains (q ∷ rest) (point_at points k)
      listed =
          let l = h.later in
          let m = h.within in
          let e : suc (k - 1) ≡ k = omega arith in
          subst (λ (i : ℕ). Contains (q ∷ rest) (point_at points i)) e (Contains-get_or (q ∷ rest) (k - 1) (point_at [] 0) (omega arith))

      low : (y : GridPoint) → Contains (q ∷ rest) y → is_before y (point_at points k) ≡ false
      low y (j, l, is) =
          subst (λ (x : GridPoint). is_before x (point_at points k) ≡ false) (get_or_default (q ∷ rest) j (point_at [] 0) y l ∙ is) (h.least (suc j) (omega arith) (omega arith))

  others : (j : ℕ) → 0 < j → j < k → same_point (point_at round j) (point_at points k) ≡ false
  others j l m =
      let within = h.within in
      false_from_ne_true (same_point (point_at round j) (point_at points k)) (λ e.
      is_before-IsStrictOrder.irreflexive (point_at points k)
      (subst (λ (x : GridPoint). is_before (point_at points k) x ≡ true) (sym (at_place j (omega arith)) ∙ same_point_from (point_at round j) (point_at points k) e) (h.first j l m)))

  turn_here : turn_at_least points ≡ turn (at (point_at points (k - 1))) (at (point_at points k)) (at (point_at points (after_place points k)))
  turn_here =
      let l = h.later in
      let within = h.within in
      let longer = length_push points q in
      let here = at_place k within in
      let before = at_place (k - 1) (omega arith) in
      ap (λ (m : GridPoint). turn_at m round) least_there
      ∙ found_at (point_at points k) round k l (omega arith) (ap (λ (x : GridPoint). same_point x (point_at points k)) here ∙ same_point_to (point_at points k) (point_at points k) refl) others
      ∙ (λ i. turn (at (before i)) (at (here i)) (at (after i)))

pub turn_is : (points : Path) (k : ℕ) → 1 < length points → IsFirstLeast points (length points) k →
    turn_at_least points ≡ turn (at (point_at points (k - 1))) (at (point_at points k)) (at (point_at points (after_place points k)))
turn_is [] k many h = absurd (omega arith)
turn_is (p ∷ []) k many h = absurd (omega arith)
turn_is (p ∷ q ∷ rest) k many h = turn_here p q rest k h

-- ---- the points of signed arcs

pub without_last_is : (xs : Path) → take (length xs - 1) xs ≡ without_last xs
without_last_is [] = refl
without_last_is (x ∷ []) = refl
without_last_is (x ∷ y ∷ rest) =
    ap (λ (n : ℕ). take n (x ∷ y ∷ rest)) (let e : length (x ∷ y ∷ rest) - 1 ≡ suc (length (y ∷ rest) - 1) = omega arith in e)
    ∙ ap (λ (ps : Path). x ∷ ps) (without_last_is (y ∷ rest))

-- the point that comes after k others
pub point_along : (arcs : List Path) (a : SignedArc) (k : ℕ) (d : GridPoint) → k < length (get_or arcs a.arc []) →
    get_or (get_or arcs a.arc []) (if a.is_reversed then length (get_or arcs a.arc []) - 1 - k else k) d ≡ get_or (points_of arcs a) k d
point_along arcs a k d l = go a.is_reversed
  where
    go : (b : Bool) → get_or (get_or arcs a.arc []) (cond b (length (get_or arcs a.arc []) - 1 - k) k) d ≡ get_or (cond b (reverse (get_or arcs a.arc [])) (get_or arcs a.arc [])) k d
    go true = sym (get_or-reverse (get_or arcs a.arc []) k d l)
    go false = refl
