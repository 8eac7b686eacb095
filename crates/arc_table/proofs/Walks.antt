-- A path of a drawing goes along whole arcs: where it steps along an arc, it goes on along it to its end.
use Rattle.std.proofs.Common.{◌≡◌, ◌⊎◌, inl, inr, refl, sym, ap, ◌∙◌, subst, arith, ℕ, zero, suc, ◌+◌, ◌-◌, ◌<◌, ◌≤◌, Bool, true, false, List, [], length, All, Contains}
use Rattle.std.specs.Prelude.{◌≢◌}
use Rattle.std.proofs.lemmas.Bool.{cases_lt}
use Rattle.plane_model.specs.Points.{GridPoint, Segment, Path, link_between}
use Rattle.plane_model.specs.Drawing.{Drawing}
use Rattle.plane_model.specs.Arcs.{SignedArc, points_of}
use Rattle.plane_model.specs.Arrangement.{IsBefore}
use Rattle.plane_model.specs.Snapped.{links_of}
use Rattle.arc_table.specs.Direction.{point_at}
use Rattle.arc_table.specs.Along.{GoAlong}
use Rattle.arc_table.specs.Around.{first_step}
use Rattle.arc_table.specs.WholeArcs.{EndsAt, IsPassed, IsWholeArc}
use Rattle.arc_table.proofs.Proper.{link_is, one_link}
use Rattle.arc_table.proofs.ArcSteps.{arc_of, IsStepOf, moving, find, on_link_of, one_place_of, begins_with, none_begins_inside, first_is}
use Rattle.arc_table.proofs.WholeBack.{back_whole}

-- the link of a step ends where the step starts, and where it stops
pub ends_at_start : (s : Segment) (p : GridPoint) → s.start ≡ p → EndsAt p (link_between s)
ends_at_start s p e = elim (link_is s) [
  | inl f ↦ inl (ap (λ (t : Segment). t.start) f ∙ e)
  | inr f ↦ inr (ap (λ (t : Segment). t.stop) f ∙ e)
]

pub ends_at_stop : (s : Segment) (p : GridPoint) → s.stop ≡ p → EndsAt p (link_between s)
ends_at_stop s p e = elim (link_is s) [
  | inl f ↦ inr (ap (λ (t : Segment). t.stop) f ∙ e)
  | inr f ↦ inl (ap (λ (t : Segment). t.start) f ∙ e)
]

-- of two, one is the first or the second, where these differ
pub pick : (one another l u v : Segment) → (l ≡ one) ⊎ (l ≡ another) → (u ≡ one) ⊎ (u ≡ another) → (v ≡ one) ⊎ (v ≡ another) → u ≢ v → (l ≡ u) ⊎ (l ≡ v)
pick one another l u v (inl a) (inl b) c n = inl (a ∙ sym b)
pick one another l u v (inr a) (inr b) c n = inl (a ∙ sym b)
pick one another l u v (inl a) (inr b) (inl c) n = inr (a ∙ sym c)
pick one another l u v (inl a) (inr b) (inr c) n = absurd (n (b ∙ sym c))
pick one another l u v (inr a) (inl b) (inr c) n = inr (a ∙ sym c)
pick one another l u v (inr a) (inl b) (inl c) n = absurd (n (b ∙ sym c))

module _ (d : Drawing) (arcs : List Path) (ordered : All (λ (l : Segment). IsBefore l.start l.stop) (links_of d)) (along : GoAlong (links_of d) arcs) (whole : All (IsWholeArc d) arcs)
    (long : All (λ (path : Path). 1 < length path) arcs) where
  abbrev S : List Segment
  S = links_of d

  -- a signed arc begins with this step
  abbrev pub Begins : Segment → Type 0
  Begins s = (a : SignedArc) × (a.arc < length arcs) × (first_step arcs a ≡ s)

  pub all_whole : (a : SignedArc) → a.arc < length arcs → IsWholeArc d (points_of arcs a)
  all_whole a l = go a.is_reversed
    where
      go : (b : Bool) → IsWholeArc d (points_of arcs (record { arc = a.arc; is_reversed = b }))
      go false = whole a.arc [] l
      go true = back_whole d (arc_of arcs a.arc) (long a.arc [] l) (whole a.arc [] l)

  -- on from a step to a vertex that is no node, and not back, there is one step
  next_step : (v : GridPoint) → IsPassed d v → (s t r : Segment) → s.stop ≡ v → t.start ≡ v → r.start ≡ v → Contains S (link_between s) → Contains S (link_between t) → Contains S (link_between r)
      → link_between s ≢ link_between t → r.stop ≢ s.start → r ≡ t
  next_step v passed s t r e f g on_s on_t on_r apart ahead =
      let two = passed.two in
      elim (pick two.one two.another (link_between r) (link_between s) (link_between t) (two.only (link_between r) on_r (ends_at_start r v g)) (two.only (link_between s) on_s (ends_at_stop s v e))
      (two.only (link_between t) on_t (ends_at_start t v f)) apart) [
        | inl h ↦ elim (one_link r s h) [
          | inl i ↦ absurd (moving S arcs ordered along s on_s (ap (λ (x : Segment). x.start) (sym i) ∙ g ∙ sym e))
          | inr i ↦ absurd (ahead (ap (λ (x : Segment). x.stop) i))
        ]
        | inr h ↦ elim (one_link r t h) [
          | inl i ↦ i
          | inr i ↦ absurd (moving S arcs ordered along t on_t (f ∙ sym g ∙ ap (λ (x : Segment). x.start) i))
        ]
      ]

  module _ (Q : Path) (n : ℕ) (on : (k : ℕ) → suc k < length Q → Contains S (link_between (record { start = point_at Q k; stop = point_at Q (suc k) })))
      (plain : (k : ℕ) → suc (suc k) < length Q → IsPassed d (point_at Q (suc k)) → point_at Q (suc (suc k)) ≢ point_at Q k)
      (kind : ((suc n ≡ length Q) × (IsPassed d (point_at Q n) → ⊥)) ⊎ ((suc (n + n) ≡ length Q) × ((k : ℕ) → k ≤ n → point_at Q (n + k) ≡ point_at Q k))) where
    -- step k of the path
    abbrev pub step : ℕ → Segment
    step k = record { start = point_at Q k; stop = point_at Q (suc k) }

    round_step : (k : ℕ) → ((m : ℕ) → m ≤ n → point_at Q (n + m) ≡ point_at Q m) → k < n → step (n + k) ≡ step k
    round_step k same l =
        let e : suc (n + k) ≡ n + suc k = omega arith in
        let p : point_at Q (suc (n + k)) ≡ point_at Q (suc k) = ap (point_at Q) e ∙ same (suc k) (omega arith) in
        let q : point_at Q (n + k) ≡ point_at Q k = same k (omega arith) in
        λ i. record { start = q i; stop = p i }

    pub fits : (k : ℕ) → k < n → suc k < length Q
    fits k l = elim kind [ inl c ↦ (let e = c.0 in omega arith) | inr c ↦ (let e = c.0 in omega arith) ]

    moved : (a : SignedArc) (i j k m : ℕ) → i ≡ j → k ≡ m → IsStepOf arcs a i (step k) → IsStepOf arcs a j (step m)
    moved a i j k m e f h = subst (λ (q : ℕ). IsStepOf arcs a q (step m)) e (subst (λ (q : ℕ). IsStepOf arcs a i (step q)) f h)

    inner_passed : (a : SignedArc) (i k : ℕ) → IsStepOf arcs a i (step k) → suc (suc i) < length (points_of arcs a) → IsPassed d (point_at Q (suc k))
    inner_passed a i k h m = subst (IsPassed d) (sym (ap (λ (x : Segment). x.stop) h.is)) ((all_whole a h.arc).inner (suc i) (omega arith) (omega arith))

    -- inside an arc the path goes on
    more : (a : SignedArc) (i k j u : ℕ) → IsStepOf arcs a i (step k) → suc (suc i) < length (points_of arcs a) → k ≡ j + u → j < n → u < n → suc k < length Q → suc (suc k) < length Q
    more a i k j u h m e l below there = elim kind [
      | inl c ↦ elim (cases_lt (suc (suc k)) (length Q)) [
        | inl g ↦ g
        | inr g ↦ absurd (let s = c.0 in c.1 (subst (λ (q : ℕ). IsPassed d (point_at Q q)) (let f : suc k ≡ n = omega arith in f) (inner_passed a i k h m)))
      ]
      | inr c ↦ (let s = c.0 in omega arith)
    ]

    -- and along the arc
    one_more : (a : SignedArc) (i k : ℕ) → IsStepOf arcs a i (step k) → suc (suc i) < length (points_of arcs a) → suc (suc k) < length Q → IsStepOf arcs a (suc i) (step (suc k))
    one_more a i k h m there =
        let P = points_of arcs a in
        let t : Segment = record { start = point_at P (suc i); stop = point_at P (suc (suc i)) } in
        let h_t : IsStepOf arcs a (suc i) t = record { arc = h.arc; there = m; is = refl } in
        let meets : point_at Q (suc k) ≡ point_at P (suc i) = ap (λ (x : Segment). x.stop) h.is in
        let passed = (all_whole a h.arc).inner (suc i) (omega arith) (omega arith) in
        record {
          arc = h.arc;
          there = m;
          is = next_step (point_at P (suc i)) passed (step k) t (step (suc k)) meets refl meets (on k (omega arith)) (on_link_of S arcs ordered along a (suc i) t h_t) (on (suc k) there)
              (λ e. let g = one_place_of S arcs ordered along a i (suc i) (step k) t h h_t e in omega arith) (plain k there (inner_passed a i k h m));
        }

    pub walk : (a : SignedArc) (t j : ℕ) → IsStepOf arcs a t (step j) → j < n → (u k i : ℕ) → k ≡ j + u → i ≡ t + u → suc i < length (points_of arcs a)
        → (suc k < length Q) × (u < n) × IsStepOf arcs a i (step k)
    walk a t j h l zero k i e f m =
        let g : j ≡ k = omega arith in
        let there = fits k (omega arith) in
        (there, omega arith, moved a t i j k (omega arith) g h)
    walk a t j h l (suc u) k i e f m =
        let (there, below, here) = walk a t j h l u (j + u) (t + u) refl refl (omega arith) in
        let longer : suc (suc (t + u)) < length (points_of arcs a) = omega arith in
        let next_there = more a (t + u) (j + u) j u here longer refl l below there in
        let next = one_more a (t + u) (j + u) here longer next_there in
        let g : suc (j + u) ≡ k = omega arith in
        let k_there : suc k < length Q = omega arith in
        (k_there, within u k below next g k_there, moved a (suc (t + u)) i (suc (j + u)) k (omega arith) g next)
      where
        within : (u k : ℕ) → u < n → IsStepOf arcs a (suc (t + u)) (step (suc (j + u))) → suc (j + u) ≡ k → suc k < length Q → suc u < n
        within u k below next g k_there = elim kind [
          | inl c ↦ (let s = c.0 in omega arith)
          | inr c ↦ elim (cases_lt (suc u) n) [
            | inl v ↦ v
            | inr v ↦ absurd (
                let e : suc (j + u) ≡ n + j = omega arith in
                let same : step (suc (j + u)) ≡ step j = ap step e ∙ round_step j c.1 l in
                let z = one_place_of S arcs ordered along a (suc (t + u)) t (step (suc (j + u))) (step j) next h (ap link_between same) in
                omega arith)
          ]
        ]

    -- from its end a closed arc without a node goes on from its start
    again : (a : SignedArc) (i k : ℕ) → IsStepOf arcs a i (step k) → suc (suc i) ≡ length (points_of arcs a) → point_at (points_of arcs a) 0 ≡ point_at (points_of arcs a) (length (points_of arcs a) - 1)
        → IsPassed d (point_at (points_of arcs a) 0) → suc (suc k) < length Q → IsStepOf arcs a 0 (step (suc k))
    again a i k h m closed passed there =
        let P = points_of arcs a in
        let last : point_at Q (suc k) ≡ point_at P (length P - 1) = ap (λ (x : Segment). x.stop) h.is ∙ ap (point_at P) (let e : suc i ≡ length P - 1 = omega arith in e) in
        let t : Segment = record { start = point_at P 0; stop = point_at P 1 } in
        let h_t : IsStepOf arcs a 0 t = record { arc = h.arc; there = omega arith; is = refl } in
        let meets : point_at P 0 ≡ point_at Q (suc k) = closed ∙ sym last in
        let here : IsPassed d (point_at Q (suc k)) = subst (IsPassed d) meets passed in
        let on_t = on_link_of S arcs ordered along a 0 t h_t in
        let apart : link_between (step k) ≢ link_between t = λ f.
        (let z = one_place_of S arcs ordered along a i 0 (step k) t h h_t f in
        moving S arcs ordered along t on_t (closed ∙ ap (point_at P) (let y : length P - 1 ≡ 1 = omega arith in y))) in
        let same : step (suc k) ≡ t = next_step (point_at Q (suc k)) here (step k) t (step (suc k)) refl meets refl (on k (omega arith)) on_t (on (suc k) there) apart (plain k there here) in
        record { arc = h.arc; there = omega arith; is = same }

    -- from a closed arc without a node the path does not part
    pub stays_round : (a : SignedArc) (j : ℕ) → IsStepOf arcs a 0 (step j) → point_at (points_of arcs a) 0 ≡ point_at (points_of arcs a) (length (points_of arcs a) - 1) → IsPassed d (point_at (points_of arcs a) 0)
        → (u k : ℕ) → k ≡ j + u → suc k < length Q → (i : ℕ) × IsStepOf arcs a i (step k)
    stays_round a j h closed passed zero k e m = (0, moved a 0 0 j k refl (omega arith) h)
    stays_round a j h closed passed (suc u) k e m =
        let before = stays_round a j h closed passed u (j + u) refl (omega arith) in
        let g = before.1 in
        let f : suc (j + u) ≡ k = omega arith in
        elim (cases_lt (suc (suc before.0)) (length (points_of arcs a))) [
          | inl l ↦ (suc before.0, moved a (suc before.0) (suc before.0) (suc (j + u)) k refl f (one_more a before.0 (j + u) g l (omega arith)))
          | inr l ↦ (0, moved a 0 0 (suc (j + u)) k refl f (again a before.0 (j + u) g (let there = g.there in omega arith) closed passed (omega arith)))
        ]

    pub passed_on : (a : SignedArc) (i k : ℕ) → IsStepOf arcs a i (step k) → IsPassed d (point_at (points_of arcs a) 0) → IsPassed d (point_at Q k)
    passed_on a i k h passed =
        let start = ap (λ (x : Segment). x.start) h.is in
        elim (cases_lt 0 i) [
          | inl l ↦ (let there = h.there in subst (IsPassed d) (sym start) ((all_whole a h.arc).inner i l (omega arith)))
          | inr l ↦ subst (IsPassed d) (sym (start ∙ ap (point_at (points_of arcs a)) (let e : i ≡ 0 = omega arith in e))) passed
        ]

    -- a step that begins an arc, where an arc ends
    pub begins_next : (a : SignedArc) (i k : ℕ) → IsStepOf arcs a i (step k) → suc (suc i) ≡ length (points_of arcs a) → suc (suc k) < length Q → Begins (step (suc k))
    begins_next a i k h m there =
        let (b, w, g) = find S arcs ordered along (step (suc k)) (on (suc k) there) in
        elim (cases_lt 0 w) [
          | inr z ↦ (b, g.arc, begins_with S arcs ordered along b (step (suc k)) (long b.arc [] g.arc) (subst (λ (q : ℕ). IsStepOf arcs b q (step (suc k))) (let e : w ≡ 0 = omega arith in e) g))
          | inl z ↦ (
              let g_there = g.there in
              let passed : IsPassed d (point_at Q (suc k)) = subst (IsPassed d) (sym (ap (λ (x : Segment). x.start) g.is)) ((all_whole b g.arc).inner w z (omega arith)) in
              on_round a i k h m there passed)
        ]
      where
        on_round : (a : SignedArc) (i k : ℕ) → IsStepOf arcs a i (step k) → suc (suc i) ≡ length (points_of arcs a) → suc (suc k) < length Q → IsPassed d (point_at Q (suc k)) → Begins (step (suc k))
        on_round a i k h m there passed =
            let P = points_of arcs a in
            let last : point_at Q (suc k) ≡ point_at P (length P - 1) = ap (λ (x : Segment). x.stop) h.is ∙ ap (point_at P) (let e : suc i ≡ length P - 1 = omega arith in e) in
            elim (all_whole a h.arc).ends [
              | inl e ↦ absurd (e.1 (subst (IsPassed d) last passed))
              | inr e ↦ (a, h.arc, begins_with S arcs ordered along a (step (suc k)) (long a.arc [] h.arc) (again a i k h m e.0 e.1 there))
            ]

    -- where no arc begins at a step, it starts at no node
    pub passed_between : (k : ℕ) → suc k < length Q → (Begins (step k) → ⊥) → IsPassed d (point_at Q k)
    passed_between k there none =
        let (b, w, g) = find S arcs ordered along (step k) (on k there) in
        elim (cases_lt 0 w) [
          | inr z ↦ absurd (none (b, g.arc, begins_with S arcs ordered along b (step k) (long b.arc [] g.arc) (subst (λ (q : ℕ). IsStepOf arcs b q (step k)) (let e : w ≡ 0 = omega arith in e) g)))
          | inl z ↦ (let g_there = g.there in subst (IsPassed d) (sym (ap (λ (x : Segment). x.start) g.is)) ((all_whole b g.arc).inner w z (omega arith)))
        ]

    pub starts_arc : (a : SignedArc) (k : ℕ) → a.arc < length arcs → first_step arcs a ≡ step k → IsStepOf arcs a 0 (step k)
    starts_arc a k l e = subst (IsStepOf arcs a 0) e (first_is S arcs ordered along a l (long a.arc [] l))

    pub none_inside : (a : SignedArc) (i k : ℕ) → IsStepOf arcs a i (step k) → 0 < i → Begins (step k) → ⊥
    none_inside a i k h some b = none_begins_inside S arcs ordered along long a b.0 i (step k) h some b.1 b.2
