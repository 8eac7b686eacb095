-- The least arc at a vertex, among the arcs that start there and vertices in order.
use Rattle.std.proofs.Common.{◌≡◌, ◌⊎◌, inl, inr, refl, sym, ap, subst, ◌∙◌, ℕ, zero, suc, ◌+◌, ◌-◌, ◌<◌, ◌≤◌, List, [], ◌∷◌, ◌++◌, map, drop, length, length-drop, get_or, arith, Bool, true, false, All, Contains, Option, Some, None, Ordering}
use Rattle.std.specs.Prelude.{IfSome, nat_lt, if◌then◌else◌}
use Rattle.std.specs.List.Sorted.{IsSorted, IsPartitionedBy, IsPartitionPoint}
use Rattle.std.specs.Ordering.{ordering_then, nat_cmp, is_lt}
use Rattle.std.specs.declared.cmp.Ordering.TheVariants.{Less, Equal, Greater}
use Rattle.std.specs.Cmp.{IsTotalOrder, IsStrictWeakOrder}
use Rattle.std.proofs.lemmas.Bool.{cases_lt, ltb-true, ltb-false}
use Rattle.std.proofs.lemmas.Cmp.{on_total, then_total, nat_cmp_total, tied_itself}
use Rattle.std.specs.Cmp.{nat_cmp_is}
use Rattle.std.proofs.lemmas.List.{get_or_default, get_or-drop, get_or-take, length-take-le}
use Rattle.std.proofs.lemmas.List.Elements.{All-contains, Contains-append_left, Contains-append_right, Contains-append_cases}
use Rattle.std.proofs.lemmas.List.MinMax.{ranks_by}
use Rattle.std.proofs.lemmas.List.Sorted.{sorted_far, Contains-permutation, IsPermutation-sym}
use Rattle.std.proofs.lemmas.Map.Keys.{ge_from_not_lt}
use Rattle.lists.proofs.Members.{Contains-cases, Contains-head, Contains-map, Contains-nil, map-Contains}
use Rattle.plane_model.specs.Points.{GridPoint, Path, Segment, same_point}
use Rattle.plane_model.proofs.PointOrder.{clash, same_point_from, same_point_to}
use Rattle.plane_model.specs.Arcs.{SignedArc, forward, backward}
use Rattle.known_order.proofs.Orders.{first_counts}
use Rattle.grid_base.specs.Order.{point_cmp}
use Rattle.grid_base.proofs.PointSearch.{point_cmp-total}
use Rattle.arc_table.specs.Around.{IsAround, start_of}
use Rattle.arc_table.specs.Direction.{point_at}
use Rattle.arc_table.specs.Lookup.{AreInner, HasVertex, IsArcAt, IsFirstAt, IsLeastNamed, IsNamed, inner_below, inner_of, lesser_of, vertex_cmp}
use Rattle.arc_table.specs.declared.vertices.ArcVertex.{ArcVertex}
use Rattle.arc_table.proofs.Others.{same_from_both}

vertex_cmp-total : IsTotalOrder vertex_cmp
vertex_cmp-total = then_total (on_total (λ (v : ArcVertex). v.at) point_cmp-total) (on_total (λ (v : ArcVertex). v.arc) nat_cmp_total)

vertex_order : IsStrictWeakOrder (λ (v : ArcVertex) (w : ArcVertex). is_lt (vertex_cmp v w))
vertex_order = ranks_by vertex_cmp-total (λ (v : ArcVertex). v)

not_below_zero : (n : ℕ) → is_lt (nat_cmp n 0) ≡ false
not_below_zero zero = ap is_lt (sym (nat_cmp_is zero 0 Equal refl))
not_below_zero (suc n) = ap is_lt (sym (nat_cmp_is (suc n) 0 Greater (omega arith)))

-- of two vertices at one point, the one that does not come first has no lesser arc
arc_counts : (p q : GridPoint) (m n : ℕ) → p ≡ q → is_lt (ordering_then (point_cmp p q) (nat_cmp m n)) ≡ false → n ≤ m
arc_counts p q m n e f =
    let tie : point_cmp p q ≡ Equal = ap (point_cmp p) (sym e) ∙ tied_itself point_cmp-total p in
    ge_from_not_lt m n ((λ i. is_lt (ordering_then (sym tie i) (nat_cmp m n))) ∙ f)

module _ (vertices : List ArcVertex) (up : IsSorted vertex_cmp vertices) where
  far : (i j : ℕ) (d : ArcVertex) → i ≤ j → j < length vertices → is_lt (vertex_cmp (get_or vertices j d) (get_or vertices i d)) ≡ false
  far i j d l m = sorted_far (λ (v : ArcVertex) (w : ArcVertex). is_lt (vertex_cmp v w)) vertex_order vertices up i j d l m

  pub by_low : (low : ArcVertex) → IsPartitionedBy (λ (v : ArcVertex). is_lt (vertex_cmp v low)) vertices
  by_low low i j d l m e = go (is_lt (vertex_cmp (get_or vertices i d) low)) refl
    where
      go : (b : Bool) → is_lt (vertex_cmp (get_or vertices i d) low) ≡ b → b ≡ true
      go true f = refl
      go false f = clash (is_lt (vertex_cmp (get_or vertices j d) low)) e (vertex_order.chain (get_or vertices j d) (get_or vertices i d) low (far i j d (omega arith) m) f)

  module _ (p : GridPoint) (first : ℕ) (at_first : IsPartitionPoint (λ (v : ArcVertex). is_lt (vertex_cmp v (record { at = p; arc = 0 })) ≡ true) (λ (v : ArcVertex). is_lt (vertex_cmp v (record { at = p; arc = 0 })) ≡ false) vertices first) where
    abbrev low : ArcVertex
    low = record { at = p; arc = 0 }

    not_low : (n : ℕ) → is_lt (vertex_cmp (record { at = p; arc = n }) low) ≡ false
    not_low n = go (point_cmp p p) (tied_itself point_cmp-total p)
      where
        go : (o : Ordering) → o ≡ Equal → is_lt (ordering_then o (nat_cmp n 0)) ≡ false
        go Less e = absurd (cc)
        go Equal e = not_below_zero n
        go Greater e = absurd (cc)

    -- a vertex at p stands at no place before the first
    not_before : (n : ℕ) (c : Contains vertices (record { at = p; arc = n })) → first ≤ c.0
    not_before n c = elim (cases_lt c.0 first) [
      | inl l ↦ clash (is_lt (vertex_cmp (record { at = p; arc = n }) low)) (subst (λ (v : ArcVertex). is_lt (vertex_cmp v low) ≡ true) c.2 (at_first.0 c.0 (record { at = p; arc = n }) (omega arith) l)) (not_low n)
      | inr m ↦ m
    ]

    pub found_least : (v : ArcVertex) → first < length vertices → v ≡ get_or vertices first v → same_point v.at p ≡ true → IsFirstAt vertices p (Some v.arc)
    found_least v l e f =
        let at : v.at ≡ p = same_point_from v.at p f in (
          (first, l, (let d : ArcVertex = record { at = p; arc = v.arc } in let same : v ≡ d = (λ i. record { at = at i; arc = v.arc }) in (λ i. get_or vertices first (sym same i)) ∙ sym e ∙ same)),
          (λ m c.
              let d : ArcVertex = record { at = p; arc = m } in
              let here : get_or vertices first d ≡ v = get_or_default vertices first d v l ∙ sym e in
              let order : is_lt (vertex_cmp d v) ≡ false = subst (λ (w : ArcVertex). is_lt (vertex_cmp d w) ≡ false) here (subst (λ (w : ArcVertex). is_lt (vertex_cmp w (get_or vertices first d)) ≡ false) c.2 (far first c.0 d (not_before m c) c.1)) in
              arc_counts p v.at m v.arc (sym at) order),
        )

    pub none_past : length vertices ≤ first → IsFirstAt vertices p None
    none_past l = λ n c. let m = not_before n c in let h = c.1 in absurd (omega arith)

    pub none_other : (v : ArcVertex) → first < length vertices → v ≡ get_or vertices first v → same_point v.at p ≡ false → IsFirstAt vertices p None
    none_other v l e f = λ n c.
        (let d : ArcVertex = record { at = p; arc = n } in
        let here : get_or vertices first d ≡ v = get_or_default vertices first d v l ∙ sym e in
        let low_not : is_lt (vertex_cmp v low) ≡ false = subst (λ (w : ArcVertex). is_lt (vertex_cmp w low) ≡ false) (sym e) (at_first.1 first v (omega arith) l) in
        let order : is_lt (vertex_cmp d v) ≡ false = subst (λ (w : ArcVertex). is_lt (vertex_cmp d w) ≡ false) here (subst (λ (w : ArcVertex). is_lt (vertex_cmp w (get_or vertices first d)) ≡ false) c.2 (far first c.0 d (not_before n c) c.1)) in
        clash (same_point v.at p)
        (same_point_to v.at p (same_from_both v.at p (first_counts (point_cmp v.at p) (nat_cmp v.arc 0) low_not) (first_counts (point_cmp p v.at) (nat_cmp n v.arc) order)))
        f)

-- ---- the least of the arcs that signed arcs name

one_of : (a z : SignedArc) → Contains (a ∷ []) z → a.arc ≡ z.arc
one_of a z c = elim (Contains-cases a [] z c) [ inl e ↦ ap (λ (b : SignedArc). b.arc) e | inr d ↦ Contains-nil z d ]

least_more_if : (named : List SignedArc) (a : SignedArc) (m : ℕ) → IsLeastNamed named (Some m) → (b : Bool) → nat_lt a.arc m ≡ b → IsLeastNamed (named ++ a ∷ []) (Some (if b then a.arc else m))
least_more_if named a m h true e = (
  (a, Contains-append_right named (a ∷ []) a (Contains-head a []), refl),
  λ z c. elim (Contains-append_cases named (a ∷ []) z c) [
    | inl d ↦ (let l = h.1 z d in let k = ltb-true a.arc m e in omega arith)
    | inr d ↦ (let f = one_of a z d in omega arith)
  ],
)
least_more_if named a m h false e = (
  (h.0.0, Contains-append_left named (a ∷ []) h.0.0 h.0.1, h.0.2),
  λ z c. elim (Contains-append_cases named (a ∷ []) z c) [
    | inl d ↦ h.1 z d
    | inr d ↦ (let f = one_of a z d in let k = ltb-false a.arc m e in omega arith)
  ],
)

pub least_more : (named : List SignedArc) (a : SignedArc) (least : Option ℕ) → IsLeastNamed named least → IsLeastNamed (named ++ a ∷ []) (lesser_of least (Some a.arc))
least_more named a None h = (
  (a, Contains-append_right named (a ∷ []) a (Contains-head a []), refl),
  λ z c. elim (Contains-append_cases named (a ∷ []) z c) [
    | inl d ↦ absurd (h z d)
    | inr d ↦ (let f = one_of a z d in omega arith)
  ],
)
least_more named a (Some m) h = least_more_if named a m h (nat_lt a.arc m) refl

-- ---- the vertices of arcs

module _ (arcs : List Path) where
  has_row : (n k : ℕ) (p : GridPoint) → k < n → Contains (inner_of (get_or arcs k [])) p → Contains (inner_below arcs n) (record { at = p; arc = k })
  has_row zero k p l c = absurd (omega arith)
  has_row (suc n) k p l c = elim (cases_lt k n) [
    | inl h ↦ Contains-append_left (inner_below arcs n) (map (λ (q : GridPoint). record { at = q; arc = n }) (inner_of (get_or arcs n []))) (record { at = p; arc = k }) (has_row n k p h c)
    | inr h ↦ (
        let e : k ≡ n = omega arith in
        Contains-append_right (inner_below arcs n) (map (λ (q : GridPoint). record { at = q; arc = n }) (inner_of (get_or arcs n []))) (record { at = p; arc = k })
        (subst (λ (j : ℕ). Contains {X = ArcVertex} (map (λ (q : GridPoint). record { at = q; arc = n }) (inner_of (get_or arcs n []))) (record { at = p; arc = j })) (sym e)
        (Contains-map (λ (q : GridPoint). record { at = q; arc = n }) (inner_of (get_or arcs n [])) p (subst (λ (j : ℕ). Contains (inner_of (get_or arcs j [])) p) e c))))
  ]

  row_has : (n : ℕ) (v : ArcVertex) → Contains (inner_below arcs n) v → (v.arc < n) × Contains (inner_of (get_or arcs v.arc [])) v.at
  row_has zero v c = absurd (let h = c.1 in omega arith)
  row_has (suc n) v c = elim (Contains-append_cases (inner_below arcs n) (map (λ (q : GridPoint). record { at = q; arc = n }) (inner_of (get_or arcs n []))) v c) [
    | inl d ↦ (let r = row_has n v d in ((let h = r.0 in omega arith), r.1))
    | inr d ↦ (
        let m = map-Contains (λ (q : GridPoint). record { at = q; arc = n }) (inner_of (get_or arcs n [])) v d in
        let arc : n ≡ v.arc = ap (λ (w : ArcVertex). w.arc) m.2 in
        let at : m.0 ≡ v.at = ap (λ (w : ArcVertex). w.at) m.2 in (
          omega arith,
          subst (λ (j : ℕ). Contains (inner_of (get_or arcs j [])) v.at) arc (subst (λ (q : GridPoint). Contains (inner_of (get_or arcs n [])) q) at m.1),
        ))
  ]

  module _ (p : GridPoint) where
    inner_on : (path : Path) → Contains (inner_of path) p → Contains path p
    inner_on path c =
        let n = length-drop 1 path in
        let m = length-take-le (length path - 2) (drop 1 path) (omega arith) in
        let l = c.1 in (
          1 + c.0,
          omega arith,
          sym (get_or-drop 1 path c.0 p) ∙ sym (get_or-take (length path - 2) (drop 1 path) c.0 p (omega arith)) ∙ c.2,
        )

    -- a vertex of an arc is its start, its end, or between them
    parted : (n : ℕ) → HasVertex arcs n p → (start_of arcs (forward n) ≡ p) ⊎ ((start_of arcs (backward n) ≡ p) ⊎ Contains (inner_of (get_or arcs n [])) p)
    parted n c =
        let path = get_or arcs n [] in
        let l = c.1 in
        elim (cases_lt 0 c.0) [
          | inr h ↦ inl (get_or_default path 0 _ p (omega arith) ∙ ap (λ (k : ℕ). get_or path k p) (let e : 0 ≡ c.0 = omega arith in e) ∙ c.2)
          | inl h ↦ elim (cases_lt c.0 (length path - 1)) [
            | inr k ↦ inr (inl (get_or_default path (length path - 1) _ p (omega arith) ∙ ap (λ (j : ℕ). get_or path j p) (let e : length path - 1 ≡ c.0 = omega arith in e) ∙ c.2))
            | inl k ↦ (
                let m = length-drop 1 path in
                let many = length-take-le (length path - 2) (drop 1 path) (omega arith) in
                inr (inr (
                  c.0 - 1,
                  omega arith,
                  get_or-take (length path - 2) (drop 1 path) (c.0 - 1) p (omega arith) ∙ get_or-drop 1 path (c.0 - 1) p ∙ ap (λ (j : ℕ). get_or path j p) (let e : 1 + (c.0 - 1) ≡ c.0 = omega arith in e) ∙ c.2,
                )))
          ]
        ]

    starts_on : (a : SignedArc) → 1 < length (get_or arcs a.arc []) → start_of arcs a ≡ p → HasVertex arcs a.arc p
    starts_on a long e = go a.is_reversed refl
      where
        path : Path
        path = get_or arcs a.arc []

        first : Bool → Segment
        first t = if t then record { start = point_at path (length path - 1); stop = point_at path (length path - 1 - 1) } else record { start = point_at path 0; stop = point_at path 1 }

        go : (b : Bool) → a.is_reversed ≡ b → HasVertex arcs a.arc p
        go true f = (length path - 1, omega arith, get_or_default path (length path - 1) p _ (omega arith) ∙ sym (ap (λ (t : Bool). (first t).start) f) ∙ e)
        go false f = (0, omega arith, get_or_default path 0 p _ (omega arith) ∙ sym (ap (λ (t : Bool). (first t).start) f) ∙ e)

    module _ (long : All (λ (arc : Path). 1 < length arc) arcs) (vertices : List ArcVertex) (t : AreInner arcs vertices) (around : List SignedArc) (row : IsAround arcs p around) where
      -- an arc with the vertex is named by one that starts there, or has it between its ends
      found_on : (n : ℕ) → n < length arcs → HasVertex arcs n p → IsNamed around n ⊎ Contains vertices (record { at = p; arc = n })
      found_on n l c = elim (parted n c) [
        | inl e ↦ inl (forward n, row.all (forward n) l e, refl)
        | inr r ↦ elim r [
          | inl e ↦ inl (backward n, row.all (backward n) l e, refl)
          | inr d ↦ inr (Contains-permutation (inner_below arcs (length arcs)) vertices (record { at = p; arc = n }) t.all (has_row (length arcs) n p l d))
        ]
      ]

      named_on : (n : ℕ) → IsNamed around n → (n < length arcs) × HasVertex arcs n p
      named_on n h =
          let a = h.0 in
          let other = All-contains (λ (b : SignedArc). (b.arc < length arcs) × (start_of arcs b ≡ p)) around a row.others h.1 in
          let there = other.0 in
          (subst (λ (k : ℕ). k < length arcs) h.2 there, subst (λ (k : ℕ). HasVertex arcs k p) h.2 (starts_on a (long a.arc [] there) other.1))

      listed_on : (n : ℕ) → Contains vertices (record { at = p; arc = n }) → (n < length arcs) × HasVertex arcs n p
      listed_on n c =
          let r = row_has (length arcs) (record { at = p; arc = n }) (Contains-permutation vertices (inner_below arcs (length arcs)) (record { at = p; arc = n }) (IsPermutation-sym (inner_below arcs (length arcs)) vertices t.all) c) in
          (r.0, inner_on (get_or arcs n []) r.1)

      of_two : (m n : ℕ) → IsLeastNamed around (Some m) → IsFirstAt vertices p (Some n) → (b : Bool) → nat_lt n m ≡ b → IsArcAt arcs p (Some (if b then n else m))
      of_two m n h k true e =
          let on = listed_on n k.0 in
          record {
            there = on.0;
            on = on.1;
            least = λ j l c. elim (found_on j l c) [
              | inl d ↦ (let f = h.1 d.0 d.1 in let g = d.2 in let less = ltb-true n m e in omega arith)
              | inr d ↦ k.1 j d
            ];
          }
      of_two m n h k false e =
          let on = named_on m h.0 in
          record {
            there = on.0;
            on = on.1;
            least = λ j l c. elim (found_on j l c) [
              | inl d ↦ (let f = h.1 d.0 d.1 in let g = d.2 in omega arith)
              | inr d ↦ (let f = k.1 j d in let more = ltb-false n m e in omega arith)
            ];
          }

      pub arc_at_from : (starting inside : Option ℕ) → IsLeastNamed around starting → IsFirstAt vertices p inside → IsArcAt arcs p (lesser_of starting inside)
      arc_at_from None None h k = λ n l c. elim (found_on n l c) [ inl d ↦ h d.0 d.1 | inr d ↦ k n d ]
      arc_at_from None (Some n) h k =
          let on = listed_on n k.0 in
          record {
            there = on.0;
            on = on.1;
            least = λ j l c. elim (found_on j l c) [ inl d ↦ absurd (h d.0 d.1) | inr d ↦ k.1 j d ];
          }
      arc_at_from (Some m) None h k =
          let on = named_on m h.0 in
          record {
            there = on.0;
            on = on.1;
            least = λ j l c. elim (found_on j l c) [ inl d ↦ (let f = h.1 d.0 d.1 in let g = d.2 in omega arith) | inr d ↦ absurd (k j d) ];
          }
      arc_at_from (Some m) (Some n) h k = of_two m n h k (nat_lt n m) refl

  pub there_from : (p : GridPoint) (o : Option ℕ) → IsArcAt arcs p o → IfSome o (λ (n : ℕ). n < length arcs)
  there_from p None h = tt
  there_from p (Some n) h = h.there
