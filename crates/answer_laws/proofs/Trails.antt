-- Steps that go on from vertex to vertex and never back go along all of an arc, or along none of it.
use Rattle.std.proofs.Common.{◌≡◌, ◌⊎◌, inl, inr, refl, sym, ap, ◌∙◌, subst, arith, ℕ, zero, suc, Bool, true, false, not, ◌&&◌, ◌||◌, List, [], ◌∷◌, ◌++◌, filter, length, reverse, Contains, Some, None}
use Rattle.std.specs.Prelude.{if◌then◌else◌, ◌↔◌}
use Rattle.std.proofs.lemmas.List.{reverse-append, reverse-reverse}
use Rattle.std.proofs.lemmas.List.Elements.{Contains-append_cases, Contains-append_left, Contains-append_right}
use Rattle.std.proofs.lemmas.List.Sorted.{Contains-permutation, IsPermutation-sym}
use Rattle.std.proofs.lemmas.Option.{same_Some}
use Rattle.lists.specs.Lists.{first_or, last_of, list_before, tail}
use Rattle.lists.proofs.Members.{Contains-cases, Contains-filter_map, Contains-head, Contains-later, Contains-nil, filter_map-Contains}
use Rattle.plane_model.specs.Points.{GridPoint, Segment, Path, is_before, link_between, reversed, same_point}
use Rattle.plane_model.specs.Arcs.{across_from, arc_along, begun_at_least, forward_way, joined_to, next_vertex, way_on}
use Rattle.plane_model.specs.Drawing.{steps}
use Rattle.plane_model.proofs.PointOrder.{same_point_from}
use Rattle.part_laws.proofs.CountLemmas.{steps_joined}
use Rattle.arc_laws.proofs.Nodes.{across_start, across_stop}
use Rattle.printed_laws.proofs.ArcSides.{not_first, not_second, way_first}
use Rattle.printed_laws.proofs.EachStep.{EachStep, each_back, each_from, each_joined, each_none}
use Rattle.answer_laws.proofs.FaceSets.{points_told}
use Rattle.answer_laws.proofs.Rounds.{begun_steps}

-- a link of S goes from p to q, or from q to p
abbrev pub Linked : List Segment → GridPoint → GridPoint → Type 0
Linked S p q = (l : Segment) × Contains S l × (((l.start ≡ p) × (l.stop ≡ q)) ⊎ ((l.start ≡ q) × (l.stop ≡ p)))

pub linked_back : (S : List Segment) (p q : GridPoint) → Linked S p q → Linked S q p
linked_back S p q (l, c, inl ends) = (l, c, inr ends)
linked_back S p q (l, c, inr ends) = (l, c, inl ends)

pub linked_step : (S : List Segment) (s : Segment) → Contains S (link_between s) → Linked S s.start s.stop
linked_step S s = go (is_before s.start s.stop)
  where
    go : (b : Bool) → Contains S (if b then s else reversed s) → Linked S s.start s.stop
    go true c = (s, c, inl (refl, refl))
    go false c = (reversed s, c, inr (refl, refl))

-- ---- the vertices that are joined to one

linked_joined : (S : List Segment) (p q : GridPoint) → Linked S p q → Contains (joined_to S q) p
linked_joined S p q (l, c, inl (starts, stops)) = Contains-filter_map (across_from q) S l p c (elim (points_told l.start q) [
  | inl e ↦ across_start q l e ∙ ap (λ (x : GridPoint). Some x) (stops ∙ sym e ∙ starts)
  | inr n ↦ across_stop q l n stops ∙ ap (λ (x : GridPoint). Some x) starts
])
linked_joined S p q (l, c, inr (starts, stops)) = Contains-filter_map (across_from q) S l p c (across_start q l starts ∙ ap (λ (x : GridPoint). Some x) stops)

across_none : (q : GridPoint) (l : Segment) (r : GridPoint) → (l.start ≡ q → ⊥) → (l.stop ≡ q → ⊥) → across_from q l ≡ Some r → ⊥
across_none q l r no_start no_stop = go (same_point l.start q) (same_point l.stop q) refl refl
  where
    go : (b c : Bool) → same_point l.start q ≡ b → same_point l.stop q ≡ c → (if b then Some l.stop else if c then Some l.start else None) ≡ Some r → ⊥
    go true c e f g = no_start (same_point_from l.start q e)
    go false true e f g = no_stop (same_point_from l.stop q f)
    go false false e f g = absurd (let h : None ≡ Some r = g in cc)

joined_linked : (S : List Segment) (q r : GridPoint) → Contains (joined_to S q) r → Linked S q r
joined_linked S q r c =
    let (l, there, e) = filter_map-Contains (across_from q) S r c in
    elim (points_told l.start q) [
      | inl starts ↦ (l, there, inl (starts, same_Some l.stop r (sym (across_start q l starts) ∙ e)))
      | inr no_start ↦ elim (points_told l.stop q) [
        | inl stops ↦ (l, there, inr (same_Some l.start r (sym (across_stop q l no_start stops) ∙ e), stops))
        | inr no_stop ↦ absurd (across_none q l r no_start no_stop e)
      ]
    ]

-- ---- where two links end, one comes by one of them and goes on by the other

-- x and y are p and the vertex chosen after it
record IsChosen (p : GridPoint) (xs : List GridPoint) (r : GridPoint) : Type 0 where
  there : Contains xs r
  other : (z : GridPoint) → Contains xs z → (z ≡ p) ⊎ (z ≡ r)

chosen : (p x y : GridPoint) → (p ≡ x) ⊎ (p ≡ y) → IsChosen p (x ∷ y ∷ []) (first_or p (filter (λ (r : GridPoint). not (same_point r p)) (x ∷ y ∷ [])))
chosen p x y (inl e) = subst (IsChosen p (x ∷ y ∷ [])) (sym (not_first p x y e)) (record {
  there = Contains-later x (y ∷ []) y (Contains-head y []);
  other = λ z c. elim (Contains-cases x (y ∷ []) z c) [ inl i ↦ inl (sym i ∙ sym e) | inr k ↦ elim (Contains-cases y [] z k) [ inl i ↦ inr (sym i) | inr n ↦ Contains-nil z n ] ];
})
chosen p x y (inr e) = subst (IsChosen p (x ∷ y ∷ [])) (sym (not_second p x y e)) (record {
  there = Contains-head x (y ∷ []);
  other = λ z c. elim (Contains-cases x (y ∷ []) z c) [ inl i ↦ inr (sym i) | inr k ↦ elim (Contains-cases y [] z k) [ inl i ↦ inl (sym i ∙ sym e) | inr n ↦ Contains-nil z n ] ];
})

two_of : (xs : List GridPoint) → length xs ≡ 2 → (x : GridPoint) × (y : GridPoint) × (xs ≡ x ∷ y ∷ [])
two_of [] e = absurd (omega arith)
two_of (x ∷ []) e = absurd (omega arith)
two_of (x ∷ y ∷ []) e = (x, y, refl)
two_of (x ∷ y ∷ z ∷ xs) e = absurd (omega arith)

next_chosen : (S : List Segment) (p q : GridPoint) → length (joined_to S q) ≡ 2 → Contains (joined_to S q) p → IsChosen p (joined_to S q) (next_vertex S p q)
next_chosen S p q two c =
    let (x, y, are) = two_of (joined_to S q) two in
    subst (λ (xs : List GridPoint). IsChosen p xs (first_or p (filter (λ (r : GridPoint). not (same_point r p)) xs))) (sym are)
    (chosen p x y (elim (Contains-cases x (y ∷ []) p (subst (λ (xs : List GridPoint). Contains xs p) are c)) [
      | inl e ↦ inl (sym e)
      | inr k ↦ elim (Contains-cases y [] p k) [ inl e ↦ inr (sym e) | inr n ↦ Contains-nil p n ]
    ]))

-- ---- trails

pub record IsTrail (S : List Segment) (X : Segment → Type 0) : Type 0 where
  pub linked : (t : Segment) → X t → Linked S t.start t.stop
  pub one_way : (t : Segment) → X t → X (reversed t) → ⊥
  pub on : (t : Segment) → X t → (u : Segment) × X u × (u.start ≡ t.stop)
  pub back : (t : Segment) → X t → (u : Segment) × X u × (u.stop ≡ t.start)

pub trail_back : (S : List Segment) (X : Segment → Type 0) → IsTrail S X → IsTrail S (λ t. X (reversed t))
trail_back S X h = record {
  linked = λ t x. linked_back S t.stop t.start (h.linked (reversed t) x);
  one_way = λ t x y. h.one_way (reversed t) x y;
  on = λ t x. (let (u, there, e) = h.back (reversed t) x in (reversed u, there, e));
  back = λ t x. (let (u, there, e) = h.on (reversed t) x in (reversed u, there, e));
}

-- a trail that has one step of the path has all
abbrev pub IsWhole : List Segment → Path → Type 1
IsWhole S path = (X : Segment → Type 0) → IsTrail S X → (t : Segment) → Contains (steps path) t → X t → EachStep X path

abbrev step : GridPoint → GridPoint → Segment
step p q = record { start = p; stop = q }

module _ (S : List Segment) (X : Segment → Type 0) (trail : IsTrail S X) (node : GridPoint → Bool) (two : (q : GridPoint) → node q ≡ false → length (joined_to S q) ≡ 2) where
  moved : (u : Segment) → X u → (a b : GridPoint) → u.start ≡ a → u.stop ≡ b → X (step a b)
  moved u x a b e f = subst X (λ i. record { start = e i; stop = f i }) x

  linked_next : (p q : GridPoint) → node q ≡ false → Linked S p q → Linked S q (next_vertex S p q)
  linked_next p q f linked = joined_linked S q (next_vertex S p q) (next_chosen S p q (two q f) (linked_joined S p q linked)).there

  goes_on : (p q : GridPoint) → node q ≡ false → Linked S p q → X (step p q) → X (step q (next_vertex S p q))
  goes_on p q f linked x =
      let (u, there, e) = trail.on (step p q) x in
      let joined : Contains (joined_to S q) u.stop = linked_joined S u.stop q (subst (Linked S u.stop) e (linked_back S u.start u.stop (trail.linked u there))) in
      elim ((next_chosen S p q (two q f) (linked_joined S p q linked)).other u.stop joined) [
        | inl back ↦ absurd (trail.one_way (step p q) x (moved u there q p e back))
        | inr next ↦ moved u there q (next_vertex S p q) e next
      ]

  comes_back : (p q : GridPoint) → node q ≡ false → Linked S p q → X (step q (next_vertex S p q)) → X (step p q)
  comes_back p q f linked x =
      let (u, there, e) = trail.back (step q (next_vertex S p q)) x in
      let joined : Contains (joined_to S q) u.start = linked_joined S u.start q (subst (Linked S u.start) e (trail.linked u there)) in
      elim ((next_chosen S p q (two q f) (linked_joined S p q linked)).other u.start joined) [
        | inl back ↦ moved u there p q back e
        | inr next ↦ absurd (trail.one_way (step q (next_vertex S p q)) x (moved u there (next_vertex S p q) q next e))
      ]

  all_on : (n : ℕ) (start p q : GridPoint) → Linked S p q → X (step p q) → EachStep X (p ∷ way_on node S n start p q)
  all_on zero start p q linked x = each_from X p q [] x (each_none X q)
  all_on (suc n) start p q linked x = go (all_on n start q (next_vertex S p q)) (node q) (same_point q start) refl
    where
      go : (Linked S q (next_vertex S p q) → X (step q (next_vertex S p q)) → EachStep X (q ∷ way_on node S n start q (next_vertex S p q))) → (c e : Bool) → node q ≡ c →
          EachStep X (p ∷ q ∷ (elim (c || e) as (λ x. Path) [ true ↦ [] | false ↦ way_on node S n start q (next_vertex S p q) ]))
      go later true e f = each_from X p q [] x (each_none X q)
      go later false true f = each_from X p q [] x (each_none X q)
      go later false false f = each_from X p q (way_on node S n start q (next_vertex S p q)) x (later (linked_next p q f linked) (goes_on p q f linked x))

  first_too : (n : ℕ) (start p q : GridPoint) → Linked S p q → (t : Segment) → Contains (steps (p ∷ way_on node S n start p q)) t → X t → X (step p q)
  first_too zero start p q linked t c x = elim (Contains-cases (step p q) [] t c) [ inl e ↦ subst X (sym e) x | inr k ↦ Contains-nil t k ]
  first_too (suc n) start p q linked t c x = go (λ l k. first_too n start q (next_vertex S p q) l t k x) (node q) (same_point q start) refl c
    where
      alone : Contains (steps (p ∷ q ∷ [])) t → X (step p q)
      alone k = elim (Contains-cases (step p q) [] t k) [ inl e ↦ subst X (sym e) x | inr none ↦ Contains-nil t none ]

      go : (Linked S q (next_vertex S p q) → Contains (steps (q ∷ way_on node S n start q (next_vertex S p q))) t → X (step q (next_vertex S p q))) → (c e : Bool) → node q ≡ c →
          Contains (steps (p ∷ q ∷ (elim (c || e) as (λ x. Path) [ true ↦ [] | false ↦ way_on node S n start q (next_vertex S p q) ]))) t → X (step p q)
      go later true e f k = alone k
      go later false true f k = alone k
      go later false false f k = elim (Contains-cases (step p q) (steps (q ∷ way_on node S n start q (next_vertex S p q))) t k) [
        | inl i ↦ subst X (sym i) x
        | inr m ↦ comes_back p q f linked (later (linked_next p q f linked) m)
      ]

-- ---- whole paths

module _ (S : List Segment) where
  pub whole_back : (path : Path) → IsWhole S path → IsWhole S (reverse path)
  whole_back path h X trail t c x =
      let Back : Segment → Type 0 = λ u. X (reversed u) in
      each_back Back path (h Back (trail_back S X trail) (reversed t) (each_back (Contains (steps path)) path (λ u k. k) t c) x)

  whole_same : (path other : Path) → ((t : Segment) → Contains (steps path) t ↔ Contains (steps other) t) → IsWhole S path → IsWhole S other
  whole_same path other same h X trail t c x u k = h X trail t ((same t).1 c) x u ((same u).1 k)

  whole_joined : (xs : Path) (y z : GridPoint) (ys : Path) → IsWhole S (xs ++ y ∷ z ∷ []) → IsWhole S (y ∷ z ∷ ys) → IsWhole S (xs ++ y ∷ z ∷ ys)
  whole_joined xs y z ys h k X trail t c x = each_joined X xs y (z ∷ ys) (λ u m. left u (Contains-append_left (steps (xs ++ y ∷ [])) (steps (y ∷ z ∷ [])) u m)) right
    where
      at_first : (u : Segment) → Contains (steps (xs ++ y ∷ []) ++ steps (y ∷ z ∷ [])) u → Contains (steps (xs ++ y ∷ z ∷ [])) u
      at_first u m = subst (λ (ss : List Segment). Contains ss u) (sym (steps_joined xs y (z ∷ []))) m

      common : X (step y z)
      common = elim (Contains-append_cases (steps (xs ++ y ∷ [])) (steps (y ∷ z ∷ ys)) t (subst (λ (ss : List Segment). Contains ss t) (steps_joined xs y (z ∷ ys)) c)) [
        | inl m ↦ h X trail t (at_first t (Contains-append_left (steps (xs ++ y ∷ [])) (steps (y ∷ z ∷ [])) t m)) x (step y z)
            (at_first (step y z) (Contains-append_right (steps (xs ++ y ∷ [])) (steps (y ∷ z ∷ [])) (step y z) (Contains-head (step y z) [])))
        | inr m ↦ k X trail t m x (step y z) (Contains-head (step y z) (steps (z ∷ ys)))
      ]

      left : (u : Segment) → Contains (steps (xs ++ y ∷ []) ++ steps (y ∷ z ∷ [])) u → X u
      left u m =
          h X trail (step y z) (at_first (step y z) (Contains-append_right (steps (xs ++ y ∷ [])) (steps (y ∷ z ∷ [])) (step y z) (Contains-head (step y z) []))) common u (at_first u m)

      right : EachStep X (y ∷ z ∷ ys)
      right = k X trail (step y z) (Contains-head (step y z) (steps (z ∷ ys))) common

  whole_forward : (path : Path) → IsWhole S path → IsWhole S (forward_way path)
  whole_forward path h = go (list_before is_before (reverse path) path)
    where
      go : (c : Bool) → IsWhole S (if c then reverse path else path)
      go true = whole_back path h
      go false = h

  module _ (node : GridPoint → Bool) (two : (q : GridPoint) → node q ≡ false → length (joined_to S q) ≡ 2) where
    way_whole : (n : ℕ) (start p q : GridPoint) → Linked S p q → IsWhole S (p ∷ way_on node S n start p q)
    way_whole n start p q linked X trail t c x = all_on S X trail node two n start p q linked (first_too S X trail node two n start p q linked t c x)

    pub arc_whole : (s : Segment) → Contains S (link_between s) → IsWhole S (arc_along node S s)
    arc_whole s c = go (same_point (last_of s.start on) s.start) (not (node s.start)) refl
      where
        way : Path
        way = way_on node S (length S) s.start s.start s.stop

        on : Path
        on = s.start ∷ way_on node S (length S) s.start s.start s.stop

        back : Path
        back = way_on node S (length S) s.stop s.stop s.start

        on_whole : IsWhole S (s.start ∷ way_on node S (length S) s.start s.start s.stop)
        on_whole = way_whole (length S) s.start s.start s.stop (linked_step S s c)

        back_whole : IsWhole S (s.stop ∷ s.start ∷ tail (way_on node S (length S) s.stop s.stop s.start))
        back_whole = subst (λ (path : Path). IsWhole S (s.stop ∷ path)) (way_first node S (length S) s.stop s.stop s.start) (way_whole (length S) s.stop s.stop s.start (linked_back S s.start s.stop (linked_step S s c)))

        both : IsWhole S (reverse (tail (way_on node S (length S) s.stop s.stop s.start)) ++ s.start ∷ way_on node S (length S) s.start s.start s.stop)
        both =
            subst (λ (path : Path). IsWhole S (reverse (tail back) ++ s.start ∷ path)) (sym (way_first node S (length S) s.start s.start s.stop))
            (whole_joined (reverse (tail back)) s.start s.stop (tail way)
            (subst (IsWhole S) (reverse-append (s.stop ∷ s.start ∷ []) (tail back)) (whole_back (s.stop ∷ s.start ∷ tail back) back_whole))
            (subst (λ (path : Path). IsWhole S (s.start ∷ path)) (way_first node S (length S) s.start s.start s.stop) on_whole))

        round : last_of s.start way ≡ s.start → IsWhole S (begun_at_least (s.start ∷ way_on node S (length S) s.start s.start s.stop))
        round closes =
            let moved = begun_steps s.start way closes in
            whole_same on (begun_at_least on) (λ t. (Contains-permutation (steps on) (steps (begun_at_least on)) t moved, Contains-permutation (steps (begun_at_least on)) (steps on) t (IsPermutation-sym (steps on) (steps (begun_at_least on)) moved))) on_whole

        go : (c e : Bool) → same_point (last_of s.start on) s.start ≡ c → IsWhole S (if c && e then forward_way (begun_at_least on) else forward_way (reverse (tail back) ++ on))
        go true true f = whole_forward (begun_at_least on) (round (same_point_from (last_of s.start on) s.start f))
        go true false f = whole_forward (reverse (tail back) ++ on) both
        go false e f = whole_forward (reverse (tail back) ++ on) both

-- ---- the arc along a step goes along it

-- the step, or its reverse, is one of the path
abbrev pub GoesAlong : Segment → Path → Type 0
GoesAlong s path = Contains (steps path) s ⊎ Contains (steps path) (reversed s)

along_forward : (s : Segment) (path : Path) → Contains (steps path) s → GoesAlong s (forward_way path)
along_forward s path c = go (list_before is_before (reverse path) path)
  where
    go : (b : Bool) → GoesAlong s (if b then reverse path else path)
    go true = inr (each_back (Contains (steps (reverse path))) (reverse path) (λ u m. m) s (subst (λ (p : Path). Contains (steps p) s) (sym (reverse-reverse path)) c))
    go false = inl c

module _ (node : GridPoint → Bool) (S : List Segment) where
  pub arc_goes_along : (s : Segment) → GoesAlong s (arc_along node S s)
  arc_goes_along s = go (same_point (last_of s.start on) s.start) (not (node s.start)) refl
    where
      way : Path
      way = way_on node S (length S) s.start s.start s.stop

      on : Path
      on = s.start ∷ way_on node S (length S) s.start s.start s.stop

      back : Path
      back = way_on node S (length S) s.stop s.stop s.start

      on_has : Contains (steps (s.start ∷ way_on node S (length S) s.start s.start s.stop)) s
      on_has = subst (λ (path : Path). Contains (steps (s.start ∷ path)) s) (sym (way_first node S (length S) s.start s.start s.stop)) (Contains-head s (steps (s.stop ∷ tail way)))

      both : Contains (steps (reverse (tail back) ++ on)) s
      both =
          subst (λ (ss : List Segment). Contains ss s) (sym (steps_joined (reverse (tail back)) s.start way))
          (Contains-append_right (steps (reverse (tail back) ++ s.start ∷ [])) (steps on) s on_has)

      go : (c e : Bool) → same_point (last_of s.start on) s.start ≡ c → GoesAlong s (if c && e then forward_way (begun_at_least on) else forward_way (reverse (tail back) ++ on))
      go true true f = along_forward s (begun_at_least on) (Contains-permutation (steps on) (steps (begun_at_least on)) s (begun_steps s.start way (same_point_from (last_of s.start on) s.start f)) on_has)
      go true false f = along_forward s (reverse (tail back) ++ on) both
      go false e f = along_forward s (reverse (tail back) ++ on) both
