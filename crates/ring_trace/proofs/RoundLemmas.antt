-- Going round a run of edges: it comes back to the edge that it began with.
use Rattle.std.proofs.Common.{◌≡◌, ◌⊎◌, inl, inr, refl, sym, ap, ◌∙◌, subst, arith, ℕ, zero, suc, ◌+◌, ◌<◌, Bool, true, false, cond, List, [], ◌∷◌, length, get_or, set, Result, Ok, Err, OnOk}
use Rattle.std.proofs.lemmas.Bool.{cases_eq}
use Rattle.std.proofs.lemmas.List.{get_or-set_same, get_or-set_other}
use Rattle.ring_trace.specs.Pairing.{AreApart}
use Rattle.ring_trace.specs.declared.simple_rings.Rings.{Rings}
use Rattle.ring_trace.specs.declared.simple_rings.Walk.{Walk}
use Rattle.ring_trace.specs.Rings.{IsWhole}
use Rattle.ring_trace.specs.Ways.{AreLedTo, AreMarked, AreRingsByVertices, AreSimpleRings, IsAtRest, IsMarkedWay, IsWay, start_in, stop_in}

abbrev IsGone : List Bool → ℕ → Type 0
IsGone is_gone k = get_or is_gone k false ≡ true

gone_within : (is_gone : List Bool) (k : ℕ) → IsGone is_gone k → k < length is_gone
gone_within [] k e = absurd (let f : false ≡ true = e in cc)
gone_within (b ∷ bs) zero e = omega arith
gone_within (b ∷ bs) (suc k) e = (let r = gone_within bs k e in omega arith)

pub gone_still : (is_gone : List Bool) (e k : ℕ) → e < length is_gone → IsGone is_gone k → IsGone (set is_gone e true) k
gone_still is_gone e k l h = elim (cases_eq k e) [
  | inl same ↦ ap (λ (n : ℕ). get_or (set is_gone e true) n false) same ∙ get_or-set_same is_gone e true false l
  | inr other ↦ get_or-set_other is_gone e k true false other ∙ h
]

gone_before : (is_gone : List Bool) (e k : ℕ) → IsGone (set is_gone e true) k → (k ≡ e) ⊎ IsGone is_gone k
gone_before is_gone e k h = elim (cases_eq k e) [
  | inl same ↦ inl same
  | inr other ↦ inr (sym (get_or-set_other is_gone e k true false other) ∙ h)
]

not_gone : (is_gone : List Bool) (e k : ℕ) → get_or is_gone e false ≡ false → IsGone is_gone k → k ≡ e → ⊥
not_gone is_gone e k free h same = let f : true ≡ false = sym h ∙ ap (λ (n : ℕ). get_or is_gone n false) same ∙ free in absurd (cc)

-- the last edge gone along leads to edge `at`; to each other edge gone along, but the first, one of the others leads
pub record IsRound (onward : List ℕ) (is_gone : List Bool) (first at : ℕ) : Type 0 where
  pub last : ℕ
  pub gone : get_or is_gone last false ≡ true
  pub leads : get_or onward last 0 ≡ at
  pub led : (k : ℕ) → get_or is_gone k false ≡ true → (k ≡ first) ⊎ ((j : ℕ) × (get_or is_gone j false ≡ true) × (get_or onward j 0 ≡ k) × (j ≡ last → ⊥))

pub round_begun : (onward : List ℕ) (is_gone : List Bool) (first : ℕ) → first < length is_gone → get_or is_gone first false ≡ false → AreLedTo onward is_gone → IsRound onward (set is_gone first true) first (get_or onward first 0)
round_begun onward is_gone first l free h = record {
  last = first;
  gone = get_or-set_same is_gone first true false l;
  leads = refl;
  led = λ k g. elim (gone_before is_gone first k g) [
    | inl same ↦ inl same
    | inr old ↦ (let (j, m, e) = h k old in inr (j, gone_still is_gone first j l m, e, not_gone is_gone first j free m))
  ];
}

pub round_more : (onward : List ℕ) (is_gone : List Bool) (first at : ℕ) → at < length is_gone → get_or is_gone at false ≡ false → IsRound onward is_gone first at → IsRound onward (set is_gone at true) first (get_or onward at 0)
round_more onward is_gone first at l free h = record {
  last = at;
  gone = get_or-set_same is_gone at true false l;
  leads = refl;
  led = λ k g. elim (gone_before is_gone at k g) [
    | inl same ↦ inr (h.last, gone_still is_gone at h.last l h.gone, h.leads ∙ sym same, not_gone is_gone at h.last free h.gone)
    | inr old ↦ elim (h.led k old) [
      | inl is ↦ inl is
      | inr found ↦ (let (j, m, e, other) = found in inr (j, gone_still is_gone at j l m, e, not_gone is_gone at j free m))
    ]
  ];
}

pub round_closed : (onward : List ℕ) (is_gone : List Bool) (first at : ℕ) → AreApart onward → length is_gone ≡ length onward → get_or is_gone at false ≡ true → IsRound onward is_gone first at → (at ≡ first) × AreLedTo onward is_gone
round_closed onward is_gone first at apart size gone h =
    let back : at ≡ first = elim (h.led at gone) [
      | inl same ↦ same
      | inr found ↦ (let (j, m, e, other) = found in
          let l = gone_within is_gone j m in
          let k = gone_within is_gone h.last h.gone in
          absurd (other (apart j h.last (omega arith) (omega arith) (e ∙ sym h.leads))))
    ] in (
      back,
      λ k g. elim (h.led k g) [
        | inl same ↦ (h.last, h.gone, h.leads ∙ back ∙ sym same)
        | inr found ↦ (let (j, m, e, other) = found in (j, m, e))
      ],
    )

-- ---- edges not yet gone along

abbrev one_free : Bool → ℕ
one_free b = cond b 0 1

abbrev pub count_free : List Bool → ℕ
count_free [] = 0
count_free (b ∷ bs) = one_free b + count_free bs

pub one_free_less : (is_gone : List Bool) (e : ℕ) → e < length is_gone → get_or is_gone e false ≡ false → count_free (set is_gone e true) + 1 ≡ count_free is_gone
one_free_less [] e l free = absurd (omega arith)
one_free_less (b ∷ bs) zero l free = (let f : one_free b ≡ 1 = ap one_free free in omega arith)
one_free_less (b ∷ bs) (suc e) l free = (let r = one_free_less bs e (omega arith) free in omega arith)

-- ---- the same walk

pub round_same : {o p : List ℕ} {g h : List Bool} {first a b : ℕ} → p ≡ o → h ≡ g → b ≡ a → IsRound o g first a → IsRound p h first b
round_same {o} {p} {g} {h} {first} {a} {b} same_onward same_gone same_at r =
    subst (λ (xs : List ℕ). IsRound xs h first b) (sym same_onward) (subst (λ (bs : List Bool). IsRound o bs first b) (sym same_gone) (subst (λ (k : ℕ). IsRound o g first k) (sym same_at) r))

pub rings_same : (v w : Walk) (rings : Rings) → v.onward.items ≡ w.onward.items → v.vertices.items ≡ w.vertices.items → AreRingsByVertices w rings → AreRingsByVertices v rings
rings_same v w rings same_onward same_vertices h =
    subst (λ (ys : List ℕ). AreSimpleRings (start_in ys) (stop_in v.onward.items ys) rings.edges.items rings.spans.items) (sym same_vertices)
    (subst (λ (ys : List ℕ). AreSimpleRings (start_in w.vertices.items) (stop_in ys w.vertices.items) rings.edges.items rings.spans.items) (sym same_onward) h)

-- the way leads to where the next edge starts
pub way_to : (w : Walk) (vertices : List ℕ) (first at next : ℕ) → w.vertices.items ≡ vertices → at ≡ next → IsMarkedWay w (start_in vertices first) (start_in vertices next) → IsMarkedWay w (start_in w.vertices.items first) (start_in w.vertices.items at)
way_to w vertices first at next same_vertices same_at h =
    subst (λ (ys : List ℕ). IsMarkedWay w (start_in ys first) (start_in ys at)) (sym same_vertices) (subst (λ (k : ℕ). IsMarkedWay w (start_in vertices first) (start_in vertices k)) (sym same_at) h)

-- at rest the way leads from any vertex to itself
pub at_rest : (w : Walk) (v : ℕ) → w.way.items ≡ [] → AreMarked w.vertices.items w.is_passed.items w.way.items → IsMarkedWay w v v
at_rest w v none marked = record { leads = subst (λ (xs : List ℕ). IsWay (start_in w.vertices.items) (stop_in w.onward.items w.vertices.items) v xs v) (sym none) refl; marked = marked }

-- after the whole way is taken for a ring
rest_after : (v w : Walk) (rings : Rings) → v.onward.items ≡ w.onward.items → v.vertices.items ≡ w.vertices.items → v.is_gone.items ≡ w.is_gone.items → v.way.items ≡ [] → AreMarked w.vertices.items v.is_passed.items v.way.items → AreLedTo w.onward.items w.is_gone.items →
    AreRingsByVertices w rings → IsAtRest v rings
rest_after v w rings same_onward same_vertices same_gone none marked led simple = record {
  done = none;
  marked = subst (λ (ys : List ℕ). AreMarked ys v.is_passed.items v.way.items) (sym same_vertices) marked;
  led = subst (λ (ys : List ℕ). AreLedTo ys v.is_gone.items) (sym same_onward) (subst (λ (bs : List Bool). AreLedTo w.onward.items bs) (sym same_gone) led);
  simple = rings_same v w rings same_onward same_vertices simple;
}

pub rest_on : {T X : Type 0} (r : Result T X) (v w : Walk) (rings : Rings) → OnOk r (v.onward.items ≡ w.onward.items) → OnOk r (v.vertices.items ≡ w.vertices.items) → OnOk r (v.is_gone.items ≡ w.is_gone.items) → OnOk r (v.way.items ≡ []) →
    OnOk r (AreMarked w.vertices.items v.is_passed.items v.way.items) → AreLedTo w.onward.items w.is_gone.items → OnOk r (AreRingsByVertices w rings) → OnOk r (IsAtRest v rings)
rest_on (Ok x) v w rings same_onward same_vertices same_gone none marked led simple = rest_after v w rings same_onward same_vertices same_gone none marked led simple
rest_on (Err x) v w rings same_onward same_vertices same_gone none marked led simple = tt

pub whole_same : {m n : ℕ} {rings : Rings} → m ≡ n → IsWhole m rings → IsWhole n rings
whole_same {m} {n} {rings} e h = subst (λ (k : ℕ). IsWhole k rings) e h
