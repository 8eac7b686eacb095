-- The steps of arcs, and the links and darts of a drawing along them.
use Rattle.std.proofs.Common.{◌≡◌, ◌⊎◌, inl, inr, refl, sym, ap, ◌∙◌, subst, arith, ℕ, zero, suc, ◌+◌, ◌-◌, ◌<◌, Bool, true, false, cond, List, [], ◌∷◌, length, get_or, All, AllPairs, Contains, pos}
use Rattle.std.specs.Prelude.{◌≢◌}
use Rattle.std.proofs.lemmas.Bool.{cases_lt}
use Rattle.std.proofs.lemmas.List.{get_or_default}
use Rattle.std.proofs.lemmas.List.Elements.{All-contains}
use Rattle.lists.proofs.Members.{Contains-map, map-Contains, Contains-flat_map, flat_map-Contains}
use Rattle.plane_model.specs.Points.{GridPoint, Segment, Path, is_before, link_between, reversed}
use Rattle.plane_model.specs.Drawing.{steps, steps_of_paths}
use Rattle.plane_model.specs.Arcs.{SignedArc, forward, backward}
use Rattle.plane_model.specs.Arrangement.{IsArrangement, IsBefore}
use Rattle.plane_model.specs.Rotation.{Dart}
use Rattle.plane_faces.specs.Around.{opposite}
use Rattle.plane_faces.specs.Rings.{dart_of_step}
use Rattle.arc_table.specs.Along.{GoAlong, links_of_arcs}
use Rattle.arc_table.specs.Around.{first_step, start_of}
use Rattle.arc_table.proofs.ArcSteps.{placed, one_place as one_link_once}
use Rattle.face_laws.specs.Faces.{AreFreeInside}
use Rattle.face_laws.proofs.DartLemmas.{Moves, one_of_two, dart_back, ends_differ}

-- ---- the steps of a path

pub steps_counted : (path : Path) → 0 < length path → length (steps path) + 1 ≡ length path
steps_counted [] l = absurd (omega arith)
steps_counted (p ∷ []) l = refl
steps_counted (p ∷ q ∷ rest) l = let h = steps_counted (q ∷ rest) (omega arith) in omega arith

pub step_between : (path : Path) (j : ℕ) (s : Segment) (d : GridPoint) → j < length (steps path) → get_or (steps path) j s ≡ record { start = get_or path j d; stop = get_or path (j + 1) d }
step_between [] j s d l = absurd (omega arith)
step_between (p ∷ []) j s d l = absurd (omega arith)
step_between (p ∷ q ∷ rest) zero s d l = refl
step_between (p ∷ q ∷ rest) (suc j) s d l =
    let e : suc (j + 1) ≡ suc j + 1 = omega arith in
    step_between (q ∷ rest) j s d (omega arith) ∙ (λ i. record { start = get_or (q ∷ rest) j d; stop = get_or (p ∷ q ∷ rest) (e i) d })

-- the link of a step ends where the step starts or stops
pub link_ends : (s : Segment) (p : GridPoint) → (s.start ≡ p) ⊎ (s.stop ≡ p) → ((link_between s).start ≡ p) ⊎ ((link_between s).stop ≡ p)
link_ends s p h = go (is_before s.start s.stop) h
  where
    go : (b : Bool) → (s.start ≡ p) ⊎ (s.stop ≡ p) → ((cond b s (reversed s)).start ≡ p) ⊎ ((cond b s (reversed s)).stop ≡ p)
    go true h = h
    go false (inl e) = inr e
    go false (inr e) = inl e

-- ---- the steps of arcs

abbrev pub arc_of : List Path → ℕ → Path
arc_of arcs n = get_or arcs n []

-- s is step j of arc n
pub record IsStep (arcs : List Path) (n j : ℕ) (s : Segment) : Type 0 where
  pub arc : n < length arcs
  pub there : j < length (steps (arc_of arcs n))
  pub is : get_or (steps (arc_of arcs n)) j s ≡ s

-- the dart begins a signed arc
pub record IsFirstDart (arcs : List Path) (a : SignedArc) (c : Dart) : Type 0 where
  pub arc : a.arc < length arcs
  pub dart : c ≡ dart_of_step (first_step arcs a)

-- the dart starts where one step of an arc follows another
pub record IsInnerDart (arcs : List Path) (n i : ℕ) (s t : Segment) (c : Dart) : Type 0 where
  pub before : IsStep arcs n i s
  pub after : IsStep arcs n (i + 1) t
  pub dart : (c ≡ dart_of_step t) ⊎ (c ≡ opposite (dart_of_step s))

module _ (arcs : List Path) where
  pub step_at : (n j : ℕ) (d : Segment) → n < length arcs → j < length (steps (arc_of arcs n)) → IsStep arcs n j (get_or (steps (arc_of arcs n)) j d)
  step_at n j d a l =
      let xs : List Segment = steps (arc_of arcs n) in record { arc = a; there = l; is = get_or_default xs j (get_or xs j d) d l }

  pub they_meet : (n i : ℕ) (s t : Segment) → IsStep arcs n i s → IsStep arcs n (i + 1) t → s.stop ≡ t.start
  they_meet n i s t h k =
      let d : GridPoint = s.stop in
      (λ x. ((sym h.is ∙ step_between (arc_of arcs n) i s d h.there) x).stop) ∙ (λ x. ((sym (step_between (arc_of arcs n) (i + 1) t d k.there) ∙ k.is) x).start)

  module _ (S : List Segment) (arr : IsArrangement S) (long : All (λ arc. 1 < length arc) arcs) (along : GoAlong S arcs) where
    pub step_on : (n j : ℕ) (s : Segment) → IsStep arcs n j s → Contains S (link_between s)
    step_on n j s h =
        All-contains (Contains S) (links_of_arcs arcs) (link_between s) along.others
        (Contains-map link_between (steps_of_paths arcs) s (Contains-flat_map steps arcs (arc_of arcs n) s (n, h.arc, get_or_default arcs n (arc_of arcs n) [] h.arc) (j, h.there, h.is)))

    pub step_moves : (n j : ℕ) (s : Segment) → IsStep arcs n j s → Moves s
    step_moves n j s h = All-contains (λ l. IsBefore l.start l.stop) S (link_between s) arr.ordered (step_on n j s h)

    -- each link is that of a step
    pub step_of_link : (l : Segment) → Contains S l → (n : ℕ) × (j : ℕ) × (s : Segment) × IsStep arcs n j s × (link_between s ≡ l)
    step_of_link l c =
        let (s, in_all, e) = map-Contains link_between (steps_of_paths arcs) l (along.all l c) in
        let (path, (n, below, is_path), (j, there, is)) = flat_map-Contains steps arcs s in_all in
        let same : path ≡ arc_of arcs n = sym is_path ∙ get_or_default arcs n path [] below in
        (n, j, s, record { arc = below; there = subst (λ (p : Path). j < length (steps p)) same there; is = subst (λ (p : Path). get_or (steps p) j s ≡ s) same is }, e)

    pub first_forward : (n : ℕ) (s : Segment) → IsStep arcs n 0 s → first_step arcs (forward n) ≡ s
    first_forward n s h = sym (step_between (arc_of arcs n) 0 s (record { x = pos 0; y = pos 0 }) h.there) ∙ h.is

    pub last_backward : (n j : ℕ) (s : Segment) → IsStep arcs n j s → j + 1 ≡ length (steps (arc_of arcs n)) → first_step arcs (backward n) ≡ reversed s
    last_backward n j s h e =
        let arc : Path = arc_of arcs n in
        let o : GridPoint = record { x = pos 0; y = pos 0 } in
        let longer : 1 < length arc = long n [] h.arc in
        let many = steps_counted arc (omega arith) in
        let last : length arc - 1 ≡ j + 1 = omega arith in
        let before : length arc - 1 - 1 ≡ j = omega arith in
        (λ i. record { start = get_or arc (last i) o; stop = get_or arc (before i) o }) ∙ ap reversed (sym (step_between arc j s o h.there) ∙ h.is)

    -- where a dart starts, an arc starts along it, or two steps of an arc follow each other
    pub where_it_starts : (c : Dart) → Contains S c.link → ((a : SignedArc) × IsFirstDart arcs a c) ⊎ ((n : ℕ) × (i : ℕ) × (s : Segment) × (t : Segment) × IsInnerDart arcs n i s t c)
    where_it_starts c h =
        let (n, j, s, is, e) = step_of_link c.link h in
        elim (one_of_two s c (sym e)) [ inl f ↦ ahead n j s is f | inr f ↦ past n j s is f ]
      where
        ahead : (n j : ℕ) (s : Segment) → IsStep arcs n j s → c ≡ dart_of_step s → ((a : SignedArc) × IsFirstDart arcs a c) ⊎ ((n : ℕ) × (i : ℕ) × (s : Segment) × (t : Segment) × IsInnerDart arcs n i s t c)
        ahead n zero s is f = inl (forward n, record { arc = is.arc; dart = f ∙ ap dart_of_step (sym (first_forward n s is)) })
        ahead n (suc j) s is f =
            let there = is.there in
            let same : suc j ≡ j + 1 = omega arith in
            let s₀ : Segment = get_or (steps (arc_of arcs n)) j s in
            inr (n, j, s₀, s, record { before = step_at n j s is.arc (omega arith); after = subst (λ (k : ℕ). IsStep arcs n k s) same is; dart = inl f })

        past : (n j : ℕ) (s : Segment) → IsStep arcs n j s → c ≡ opposite (dart_of_step s) → ((a : SignedArc) × IsFirstDart arcs a c) ⊎ ((n : ℕ) × (i : ℕ) × (s : Segment) × (t : Segment) × IsInnerDart arcs n i s t c)
        past n j s is f = elim (cases_lt (j + 1) (length (steps (arc_of arcs n)))) [
          | inl l ↦ inr (n, j, s, get_or (steps (arc_of arcs n)) (j + 1) s, record { before = is; after = step_at n (j + 1) s is.arc l; dart = inr f })
          | inr m ↦ (
              let there = is.there in
              inl (backward n, record { arc = is.arc; dart = f ∙ sym (dart_back s (step_moves n j s is)) ∙ ap dart_of_step (sym (last_backward n j s is (omega arith))) }))
        ]

-- ---- each link stands at one place

pub one_place : (arcs : List Path) → AllPairs (λ k l. k ≢ l) (links_of_arcs arcs) → (m n i j : ℕ) (s t : Segment) → IsStep arcs m i s → IsStep arcs n j t → link_between s ≡ link_between t → (m ≡ n) × (i ≡ j)
one_place arcs once m n i j s t h k e = one_link_once arcs once m n i j s t (placed arcs m i s h.arc h.there h.is) (placed arcs n j t k.arc k.there k.is) e

-- ---- the first steps of signed arcs

-- a signed arc begins with the first step of its arc, or with the last one turned round
pub record IsFirstStep (arcs : List Path) (a : SignedArc) (j : ℕ) (s : Segment) : Type 0 where
  pub step : IsStep arcs a.arc j s
  pub first : a.is_reversed ≡ false → j ≡ 0
  pub last : a.is_reversed ≡ true → j + 1 ≡ length (steps (arc_of arcs a.arc))
  pub is : first_step arcs a ≡ cond a.is_reversed (reversed s) s

module _ (S : List Segment) (arr : IsArrangement S) (arcs : List Path) (long : All (λ arc. 1 < length arc) arcs) (along : GoAlong S arcs) where
  pub begins_with : (a : SignedArc) → a.arc < length arcs → (j : ℕ) × (s : Segment) × IsFirstStep arcs a j s
  begins_with a l = go a.is_reversed
    where
      many : 0 < length (steps (arc_of arcs a.arc))
      many =
          let longer : 1 < length (arc_of arcs a.arc) = long a.arc [] l in
          let e = steps_counted (arc_of arcs a.arc) (omega arith) in omega arith

      none : Segment
      none = record { start = record { x = pos 0; y = pos 0 }; stop = record { x = pos 0; y = pos 0 } }

      go : (b : Bool) → (j : ℕ) × (s : Segment) × IsFirstStep arcs (record { arc = a.arc; is_reversed = b }) j s
      go false =
          let s : Segment = get_or (steps (arc_of arcs a.arc)) 0 none in
          let step : IsStep arcs a.arc 0 s = step_at arcs a.arc 0 none l many in
          (0, s, record { step = step; first = λ e. refl; last = λ e. absurd (let f : false ≡ true = e in cc); is = first_forward arcs S arr long along a.arc s step })
      go true =
          let n : ℕ = length (steps (arc_of arcs a.arc)) in
          let s : Segment = get_or (steps (arc_of arcs a.arc)) (n - 1) none in
          let some = many in
          let step : IsStep arcs a.arc (n - 1) s = step_at arcs a.arc (n - 1) none l (omega arith) in
          let e : n - 1 + 1 ≡ n = omega arith in
          (n - 1, s, record { step = step; first = λ e. absurd (let f : true ≡ false = e in cc); last = λ f. e; is = last_backward arcs S arr long along a.arc (n - 1) s step e })

  pub first_link : (a : SignedArc) (j : ℕ) (s : Segment) → IsFirstStep arcs a j s → link_between (first_step arcs a) ≡ link_between s
  first_link a j s h = ap link_between h.is ∙ go a.is_reversed
    where
      go : (b : Bool) → link_between (cond b (reversed s) s) ≡ link_between s
      go true = ap (λ (d : Dart). d.link) (dart_back s (step_moves arcs S arr long along a.arc j s h.step))
      go false = refl

  -- where two steps of an arc follow each other, no other link ends
  pub alone_inside : AreFreeInside S arcs → (n i : ℕ) (s t : Segment) → IsStep arcs n i s → IsStep arcs n (i + 1) t
      → (l : Segment) → Contains S l → (l.start ≡ t.start) ⊎ (l.stop ≡ t.start) → (l ≡ link_between s) ⊎ (l ≡ link_between t)
  alone_inside free n i s t h k l c e =
      let arc : Path = arc_of arcs n in
      let o : GridPoint = record { x = pos 0; y = pos 0 } in
      let there = k.there in
      let longer : 1 < length arc = long n [] h.arc in
      let many = steps_counted arc (omega arith) in
      let p_is : t.start ≡ get_or arc (i + 1) o = λ x. ((sym k.is ∙ step_between arc (i + 1) t o k.there) x).start in
      let (one, another, only) = free n (i + 1) h.arc (omega arith) (omega arith) in
      let of : (m : Segment) → Contains S m → (m.start ≡ t.start) ⊎ (m.stop ≡ t.start) → (m ≡ one) ⊎ (m ≡ another) = λ m d f.
      only m d (subst (λ (p : GridPoint). (m.start ≡ p) ⊎ (m.stop ≡ p)) p_is f) in
      pick one another l (link_between s) (link_between t) (of l c e)
      (of (link_between s) (step_on arcs S arr long along n i s h) (link_ends s t.start (inr (they_meet arcs n i s t h k))))
      (of (link_between t) (step_on arcs S arr long along n (i + 1) t k) (link_ends t t.start (inl refl)))
      (λ f. let m = one_place arcs along.once n n i (i + 1) s t h k f in let g = m.1 in omega arith)
    where
      pick : (one another l u v : Segment) → (l ≡ one) ⊎ (l ≡ another) → (u ≡ one) ⊎ (u ≡ another) → (v ≡ one) ⊎ (v ≡ another) → (u ≡ v → ⊥) → (l ≡ u) ⊎ (l ≡ v)
      pick one another l u v (inl a) (inl b) c n = inl (a ∙ sym b)
      pick one another l u v (inr a) (inr b) c n = inl (a ∙ sym b)
      pick one another l u v (inl a) (inr b) (inl c) n = inr (a ∙ sym c)
      pick one another l u v (inl a) (inr b) (inr c) n = absurd (n (b ∙ sym c))
      pick one another l u v (inr a) (inl b) (inr c) n = inr (a ∙ sym c)
      pick one another l u v (inr a) (inl b) (inl c) n = absurd (n (b ∙ sym c))

  -- a signed arc that starts at a vertex inside an arc is none
  pub none_starts_inside : (n i : ℕ) (s t : Segment) → IsStep arcs n i s → IsStep arcs n (i + 1) t
      → ((l : Segment) → Contains S l → (l.start ≡ t.start) ⊎ (l.stop ≡ t.start) → (l ≡ link_between s) ⊎ (l ≡ link_between t))
      → (a : SignedArc) → a.arc < length arcs → start_of arcs a ≡ t.start → ⊥
  none_starts_inside n i s t hs ht alone a l e =
      let (j, u, h) = begins_with a l in
      let first = first_link a j u h in
      let there : Contains S (link_between u) = step_on arcs S arr long along a.arc j u h.step in
      elim (alone (link_between u) there (link_ends u t.start (either a.is_reversed u (ap (λ (x : Segment). x.start) (sym h.is) ∙ e)))) [
        | inl f ↦ (
            let (same, at) = one_place arcs along.once a.arc n j i u s h.step hs f in
            at_first a.is_reversed j u h.last h.is at (one_step u s a.arc n j i same at h.step hs) same)
        | inr f ↦ (
            let (same, at) = one_place arcs along.once a.arc n j (i + 1) u t h.step ht f in
            at_second a.is_reversed j u h.first h.is at (one_step u t a.arc n j (i + 1) same at h.step ht))
      ]
    where
      either : (b : Bool) (u : Segment) → (cond b (reversed u) u).start ≡ t.start → (u.start ≡ t.start) ⊎ (u.stop ≡ t.start)
      either true u f = inr f
      either false u f = inl f

      one_step : (u v : Segment) (m k p q : ℕ) → m ≡ k → p ≡ q → IsStep arcs m p u → IsStep arcs k q v → u ≡ v
      one_step u v m k p q f g h o = sym h.is ∙ get_or_default (steps (arc_of arcs m)) p u v h.there ∙ (λ x. get_or (steps (arc_of arcs (f x))) (g x) v) ∙ o.is

      meets : s.stop ≡ t.start
      meets = they_meet arcs n i s t hs ht

      at_first : (b : Bool) (j : ℕ) (u : Segment) → (b ≡ true → j + 1 ≡ length (steps (arc_of arcs a.arc))) → first_step arcs a ≡ cond b (reversed u) u → j ≡ i → u ≡ s → a.arc ≡ n → ⊥
      at_first true j u g is at same m =
          let k = g refl in
          let there = subst (λ (q : ℕ). i + 1 < length (steps (arc_of arcs q))) (sym m) ht.there in absurd (omega arith)
      at_first false j u g is at same m = ends_differ s (step_moves arcs S arr long along n i s hs) (ap (λ (x : Segment). x.start) (sym same ∙ sym is) ∙ e ∙ sym meets)

      at_second : (b : Bool) (j : ℕ) (u : Segment) → (b ≡ false → j ≡ 0) → first_step arcs a ≡ cond b (reversed u) u → j ≡ i + 1 → u ≡ t → ⊥
      at_second true j u f is at same = ends_differ t (step_moves arcs S arr long along n (i + 1) t ht) (sym e ∙ ap (λ (x : Segment). x.start) is ∙ ap (λ (x : Segment). x.stop) same)
      at_second false j u f is at same = let z = f refl in absurd (omega arith)
