-- The steps of a boundary: each goes one way along a link, no two are one, and the steps of a ring of them are a trail.
use Rattle.std.proofs.Common.{◌≡◌, ◌⊎◌, inl, inr, refl, sym, ap, ◌∙◌, subst, Bool, true, false, List, [], ◌∷◌, ◌++◌, Contains, Some, None}
use Rattle.std.specs.Prelude.{All}
use Rattle.std.specs.List.{cons_option}
use Rattle.std.specs.List.Sorted.{IsPermutation}
use Rattle.std.proofs.lemmas.List.Elements.{All-contains, All-contains_itself, All-head, All-tail, All-weaker, Contains-append_right}
use Rattle.std.proofs.lemmas.Option.{same_Some}
use Rattle.region_laws.proofs.Totals.{distinct_from_pairs}
use Rattle.arc_laws.proofs.Nodes.{pairs_of}
use Rattle.lists.specs.Lists.{last_of}
use Rattle.lists.proofs.Members.{Contains-cases, Contains-head, Contains-later, Contains-nil, filter_map-Contains}
use Rattle.plane_model.specs.Points.{GridPoint, Segment, Path, reversed}
use Rattle.plane_model.specs.Arrangement.{IsArrangement, IsBefore, IsDistinct}
use Rattle.plane_model.specs.Boundary.{boundary_by, boundary_step}
use Rattle.plane_model.specs.Drawing.{steps}
use Rattle.plane_faces.specs.Rings.{IsRing}
use Rattle.plane_faces.proofs.Order.{before_not_itself, before_trans}
use Rattle.arc_table.proofs.Proper.{once_moved}
use Rattle.answer_laws.proofs.Trails.{IsTrail, Linked}

-- ---- lists of distinct steps

pub distinct_moved : (xs ys : List Segment) → IsPermutation xs ys → IsDistinct xs → IsDistinct ys
distinct_moved xs ys p h = distinct_from_pairs ys (once_moved xs ys p (pairs_of xs h))

-- of two lists joined no element stands in both
pub distinct_joined : (xs ys : List Segment) → IsDistinct (xs ++ ys) → IsDistinct ys × ((t : Segment) → Contains xs t → Contains ys t → ⊥)
distinct_joined [] ys h = (h, λ t c k. Contains-nil t c)
distinct_joined (x ∷ xs) ys h =
    let (rest, apart) = distinct_joined xs ys h.1 in (
      rest,
      λ t c k. elim (Contains-cases x xs t c) [
        | inl e ↦ All-contains (λ (y : Segment). y ≡ x → ⊥) (xs ++ ys) t h.0 (Contains-append_right xs ys t k) (sym e)
        | inr m ↦ apart t m k
      ],
    )

-- ---- steps of a boundary

module _ (left right : Segment → Bool) where
  -- the step goes along l with the region on its left alone
  abbrev pub IsAlong : Segment → Segment → Type 0
  IsAlong l t = ((t ≡ l) × (left l ≡ true) × (right l ≡ false)) ⊎ ((t ≡ reversed l) × (left l ≡ false) × (right l ≡ true))

  pub of_boundary : (ls : List Segment) (t : Segment) → Contains (boundary_by left right ls) t → (l : Segment) × Contains ls l × IsAlong l t
  of_boundary ls t c =
      let (l, there, e) = filter_map-Contains (λ (k : Segment). boundary_step (left k) (right k) k) ls t c in
      (l, there, go l (left l) (right l) refl refl e)
    where
      go : (l : Segment) (a b : Bool) → left l ≡ a → right l ≡ b → boundary_step a b l ≡ Some t → IsAlong l t
      go l true true e f g = absurd (let h : None ≡ Some t = g in cc)
      go l true false e f g = inl (sym (same_Some l t g), e, f)
      go l false true e f g = inr (sym (same_Some (reversed l) t g), e, f)
      go l false false e f g = absurd (let h : None ≡ Some t = g in cc)

  abbrev Ordered : Segment → Type 0
  Ordered l = IsBefore l.start l.stop

  pub not_turned : (k l : Segment) → Ordered k → Ordered l → k ≡ reversed l → ⊥
  not_turned k l u v e = before_not_itself l.start (before_trans l.start l.stop l.start v (subst Ordered e u))

  distinct_steps : (ls : List Segment) → All Ordered ls → IsDistinct ls → IsDistinct (boundary_by left right ls)
  distinct_steps [] o h = tt
  distinct_steps (l ∷ ls) o h = go (left l) (right l) (distinct_steps ls (All-tail Ordered l ls o) h.1)
    where
      first : Ordered l
      first = All-head Ordered l ls o

      later : (k : Segment) → Contains ls k → Ordered k
      later k c = All-contains Ordered ls k (All-tail Ordered l ls o) c

      other : (k : Segment) → Contains ls k → k ≡ l → ⊥
      other k c = All-contains (λ (m : Segment). m ≡ l → ⊥) ls k h.0 c

      apart : (t : Segment) → Contains (boundary_by left right ls) t → (t ≡ l → ⊥) × (t ≡ reversed l → ⊥)
      apart t c = let (k, there, along) = of_boundary ls t c in by_way k there along
        where
          by_way : (k : Segment) → Contains ls k → IsAlong k t → (t ≡ l → ⊥) × (t ≡ reversed l → ⊥)
          by_way k there (inl (e, f, g)) = (λ i. other k there (sym e ∙ i), λ i. not_turned k l (later k there) first (sym e ∙ i))
          by_way k there (inr (e, f, g)) = (λ i. not_turned l k first (later k there) (sym i ∙ e), λ i. other k there (ap reversed (sym e ∙ i)))

      go : (a b : Bool) → IsDistinct (boundary_by left right ls) → IsDistinct (cons_option (boundary_step a b l) (boundary_by left right ls))
      go true true rest = rest
      go true false rest = (All-weaker (Contains (boundary_by left right ls)) (λ (t : Segment). t ≡ l → ⊥) (λ t c. (apart t c).0) (boundary_by left right ls) (All-contains_itself (boundary_by left right ls)), rest)
      go false true rest = (All-weaker (Contains (boundary_by left right ls)) (λ (t : Segment). t ≡ reversed l → ⊥) (λ t c. (apart t c).1) (boundary_by left right ls) (All-contains_itself (boundary_by left right ls)), rest)
      go false false rest = rest

  module _ (S : List Segment) (arr : IsArrangement S) (distinct : IsDistinct S) where
    pub boundary_distinct : IsDistinct (boundary_by left right S)
    boundary_distinct = distinct_steps S arr.ordered distinct

    pub boundary_linked : (t : Segment) → Contains (boundary_by left right S) t → Linked S t.start t.stop
    boundary_linked t c = let (l, there, along) = of_boundary S t c in by_way l there along
      where
        by_way : (l : Segment) → Contains S l → IsAlong l t → Linked S t.start t.stop
        by_way l there (inl (e, f, g)) = (l, there, inl (ap (λ (u : Segment). u.start) (sym e), ap (λ (u : Segment). u.stop) (sym e)))
        by_way l there (inr (e, f, g)) = (l, there, inr (ap (λ (u : Segment). u.stop) (sym e), ap (λ (u : Segment). u.start) (sym e)))

    pub boundary_one_way : (t : Segment) → Contains (boundary_by left right S) t → Contains (boundary_by left right S) (reversed t) → ⊥
    boundary_one_way t c d =
        let (k, k_there, k_along) = of_boundary S t c in
        let (l, l_there, l_along) = of_boundary S (reversed t) d in
        by_way k l (ordered k k_there) (ordered l l_there) k_along l_along
      where
        ordered : (l : Segment) → Contains S l → Ordered l
        ordered l there = All-contains Ordered S l arr.ordered there

        no_clash : (b : Bool) → b ≡ true → b ≡ false → ⊥
        no_clash b e f = let g : true ≡ false = sym e ∙ f in absurd (cc)

        by_way : (k l : Segment) → Ordered k → Ordered l → IsAlong k t → IsAlong l (reversed t) → ⊥
        by_way k l u v (inl (e, f, g)) (inl (i, m, n)) = not_turned l k v u (sym i ∙ ap reversed e)
        by_way k l u v (inl (e, f, g)) (inr (i, m, n)) = no_clash (left k) f (ap left (sym e ∙ ap reversed i) ∙ m)
        by_way k l u v (inr (e, f, g)) (inl (i, m, n)) = no_clash (left l) m (ap left (sym i ∙ ap reversed e) ∙ f)
        by_way k l u v (inr (e, f, g)) (inr (i, m, n)) = not_turned l k v u (sym (ap reversed i) ∙ e)

    -- ---- rings of these steps

    next_or_last : (p : GridPoint) (rest : Path) (t : Segment) → Contains (steps (p ∷ rest)) t → ((u : Segment) × Contains (steps (p ∷ rest)) u × (u.start ≡ t.stop)) ⊎ (t.stop ≡ last_of p rest)
    next_or_last p [] t c = Contains-nil t c
    next_or_last p (q ∷ rest) t c = elim (Contains-cases (record { start = p; stop = q }) (steps (q ∷ rest)) t c) [
      | inl e ↦ here rest e
      | inr k ↦ elim (next_or_last q rest t k) [
        | inl r ↦ inl (r.0, Contains-later (record { start = p; stop = q }) (steps (q ∷ rest)) r.0 r.1, r.2)
        | inr last ↦ inr last
      ]
    ]
      where
        here : (more : Path) → ◌≡◌ {A = Segment} (record { start = p; stop = q }) t → ((u : Segment) × Contains (steps (p ∷ q ∷ more)) u × (u.start ≡ t.stop)) ⊎ (t.stop ≡ last_of q more)
        here [] e = inr (ap (λ (u : Segment). u.stop) (sym e))
        here (r ∷ more) e = inl (
          record { start = q; stop = r },
          Contains-later (record { start = p; stop = q }) (steps (q ∷ r ∷ more)) (record { start = q; stop = r }) (Contains-head (record { start = q; stop = r }) (steps (r ∷ more))),
          λ i. (e i).stop,
        )

    before_or_first : (p : GridPoint) (rest : Path) (t : Segment) → Contains (steps (p ∷ rest)) t → ((u : Segment) × Contains (steps (p ∷ rest)) u × (u.stop ≡ t.start)) ⊎ (t.start ≡ p)
    before_or_first p [] t c = Contains-nil t c
    before_or_first p (q ∷ rest) t c = elim (Contains-cases (record { start = p; stop = q }) (steps (q ∷ rest)) t c) [
      | inl e ↦ inr (ap (λ (u : Segment). u.start) (sym e))
      | inr k ↦ elim (before_or_first q rest t k) [
        | inl r ↦ inl (r.0, Contains-later (record { start = p; stop = q }) (steps (q ∷ rest)) r.0 r.1, r.2)
        | inr first ↦ inl (record { start = p; stop = q }, Contains-head (record { start = p; stop = q }) (steps (q ∷ rest)), sym first)
      ]
    ]

    last_step : (p q : GridPoint) (rest : Path) → (u : Segment) × Contains (steps (p ∷ q ∷ rest)) u × (u.stop ≡ last_of q rest)
    last_step p q [] = (record { start = p; stop = q }, Contains-head (record { start = p; stop = q }) [], refl)
    last_step p q (r ∷ rest) = let (u, c, e) = last_step q r rest in (u, Contains-later (record { start = p; stop = q }) (steps (q ∷ r ∷ rest)) u c, e)

    pub ring_trail : (ring : Path) → IsRing ring → ((t : Segment) → Contains (steps ring) t → Contains (boundary_by left right S) t) → IsTrail S (Contains (steps ring))
    ring_trail [] h within = absurd h
    ring_trail (p ∷ []) h within = absurd h
    ring_trail (p ∷ q ∷ rest) h within = record {
      linked = λ t c. boundary_linked t (within t c);
      one_way = λ t c k. boundary_one_way t (within t c) (within (reversed t) k);
      on = λ t c. elim (next_or_last p (q ∷ rest) t c) [
        | inl r ↦ r
        | inr last ↦ (record { start = p; stop = q }, Contains-head (record { start = p; stop = q }) (steps (q ∷ rest)), sym (last ∙ h.0))
      ];
      back = λ t c. elim (before_or_first p (q ∷ rest) t c) [
        | inl r ↦ r
        | inr first ↦ (let (u, there, e) = last_step p q rest in (u, there, e ∙ h.0 ∙ sym first))
      ];
    }
