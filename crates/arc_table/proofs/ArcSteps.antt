-- Each step along a link is a step of just one signed arc, at one place.
use Rattle.std.proofs.Common.{◌≡◌, inl, inr, refl, sym, ap, ◌∙◌, subst, arith, ℕ, zero, suc, ◌+◌, ◌-◌, ◌<◌, Bool, true, false, List, [], ◌∷◌, ◌++◌, map, reverse, length, get_or, All, AllPairs, Contains}
use Rattle.std.specs.Prelude.{◌≢◌}
use Rattle.std.proofs.lemmas.Bool.{cases_lt}
use Rattle.std.proofs.lemmas.List.{get_or_default, get_or-map, get_or-reverse, length-map, length-reverse, get_or_append_left, get_or-append-add, length-append}
use Rattle.std.proofs.lemmas.List.Elements.{All-contains}
use Rattle.lists.proofs.Members.{Contains-map, map-Contains, Contains-flat_map, flat_map-Contains}
use Rattle.plane_model.specs.Points.{Segment, Path, link_between, reversed}
use Rattle.plane_model.specs.Drawing.{steps, steps_of_paths}
use Rattle.plane_model.specs.Arcs.{SignedArc, forward, backward, points_of}
use Rattle.plane_model.specs.Arrangement.{IsBefore}
use Rattle.arc_table.specs.Direction.{point_at}
use Rattle.arc_table.specs.Along.{GoAlong, links_of_arcs}
use Rattle.arc_table.specs.Around.{first_step}
use Rattle.arc_table.proofs.Proper.{link_is, link_turned, one_link, moves}

-- ---- the steps of a path

pub steps_fit : (path : Path) (j : ℕ) → j < length (steps path) → suc j < length path
steps_fit [] j l = absurd (omega arith)
steps_fit (p ∷ []) j l = absurd (omega arith)
steps_fit (p ∷ q ∷ rest) zero l = omega arith
steps_fit (p ∷ q ∷ rest) (suc j) l = let h = steps_fit (q ∷ rest) j (omega arith) in omega arith

pub steps_many : (path : Path) (j : ℕ) → suc j < length path → j < length (steps path)
steps_many [] j l = absurd (omega arith)
steps_many (p ∷ []) j l = absurd (omega arith)
steps_many (p ∷ q ∷ rest) zero l = omega arith
steps_many (p ∷ q ∷ rest) (suc j) l = let h = steps_many (q ∷ rest) j (omega arith) in omega arith

pub step_between : (path : Path) (j : ℕ) (s : Segment) → suc j < length path → get_or (steps path) j s ≡ record { start = point_at path j; stop = point_at path (suc j) }
step_between [] j s l = absurd (omega arith)
step_between (p ∷ []) j s l = absurd (omega arith)
step_between (p ∷ q ∷ rest) zero s l = refl
step_between (p ∷ q ∷ rest) (suc j) s l = step_between (q ∷ rest) j s (omega arith)

-- ---- the steps of arcs

abbrev pub arc_of : List Path → ℕ → Path
arc_of arcs n = get_or arcs n []

-- s is step j of arc n
pub record IsStep (arcs : List Path) (n j : ℕ) (s : Segment) : Type 0 where
  pub arc : n < length arcs
  pub there : suc j < length (arc_of arcs n)
  pub is : s ≡ record { start = point_at (arc_of arcs n) j; stop = point_at (arc_of arcs n) (suc j) }

listed : (arcs : List Path) (n j : ℕ) (s : Segment) → IsStep arcs n j s → (j < length (steps (arc_of arcs n))) × (get_or (steps (arc_of arcs n)) j s ≡ s)
listed arcs n j s h = (steps_many (arc_of arcs n) j h.there, step_between (arc_of arcs n) j s h.there ∙ sym h.is)

pub placed : (arcs : List Path) (n j : ℕ) (s : Segment) → n < length arcs → j < length (steps (arc_of arcs n)) → get_or (steps (arc_of arcs n)) j s ≡ s → IsStep arcs n j s
placed arcs n j s l m is = record { arc = l; there = steps_fit (arc_of arcs n) j m; is = sym is ∙ step_between (arc_of arcs n) j s (steps_fit (arc_of arcs n) j m) }

-- how many steps the first n arcs have
abbrev offset : List Path → ℕ → ℕ
offset [] n = 0
offset (arc ∷ arcs) zero = 0
offset (arc ∷ arcs) (suc n) = length (steps arc) + offset arcs n

offset_step : (arcs : List Path) (n j : ℕ) (s : Segment) → IsStep arcs n j s → (offset arcs n + j < length (steps_of_paths arcs)) × (get_or (steps_of_paths arcs) (offset arcs n + j) s ≡ s)
offset_step [] n j s h = let l = h.arc in absurd (omega arith)
offset_step (arc ∷ arcs) zero j s h =
    let m = length-append (steps arc) (steps_of_paths arcs) in
    let (below, is) = listed (arc ∷ arcs) zero j s h in
    (omega arith, ap (λ (k : ℕ). get_or (steps arc ++ steps_of_paths arcs) k s) (let e : 0 + j ≡ j = omega arith in e) ∙ get_or_append_left (steps arc) (steps_of_paths arcs) s j below ∙ is)
offset_step (arc ∷ arcs) (suc n) j s h =
    let l = h.arc in
    let (below, is) = offset_step arcs n j s (record { arc = omega arith; there = h.there; is = h.is }) in
    let m = length-append (steps arc) (steps_of_paths arcs) in
    let e : length (steps arc) + offset arcs n + j ≡ length (steps arc) + (offset arcs n + j) = omega arith in
    (omega arith, ap (λ (k : ℕ). get_or (steps arc ++ steps_of_paths arcs) k s) e ∙ get_or-append-add (steps arc) (steps_of_paths arcs) (offset arcs n + j) s ∙ is)

offset_once : (arcs : List Path) (m n i j : ℕ) → m < length arcs → n < length arcs → i < length (steps (arc_of arcs m)) → j < length (steps (arc_of arcs n)) → offset arcs m + i ≡ offset arcs n + j → (m ≡ n) × (i ≡ j)
offset_once [] m n i j a b l k e = absurd (omega arith)
offset_once (arc ∷ arcs) zero zero i j a b l k e = (refl, omega arith)
offset_once (arc ∷ arcs) zero (suc n) i j a b l k e = absurd (omega arith)
offset_once (arc ∷ arcs) (suc m) zero i j a b l k e = absurd (omega arith)
offset_once (arc ∷ arcs) (suc m) (suc n) i j a b l k e = let (f, g) = offset_once arcs m n i j (omega arith) (omega arith) l k (omega arith) in (ap suc f, g)

-- each link stands at one place
pub one_place : (arcs : List Path) → AllPairs (λ k l. k ≢ l) (links_of_arcs arcs) → (m n i j : ℕ) (s t : Segment) → IsStep arcs m i s → IsStep arcs n j t → link_between s ≡ link_between t → (m ≡ n) × (i ≡ j)
one_place arcs once m n i j s t h k e =
    let all : List Segment = steps_of_paths arcs in
    let (lu, su) = offset_step arcs m i s h in
    let (lv, sv) = offset_step arcs n j t k in
    let many = length-map all link_between in
    let u : ℕ = offset arcs m + i in
    let v : ℕ = offset arcs n + j in
    let at_u : (d : Segment) → get_or (map link_between all) u d ≡ link_between s = λ d. get_or-map link_between all u s d lu ∙ ap link_between su in
    let at_v : (d : Segment) → get_or (map link_between all) v d ≡ link_between t = λ d. get_or-map link_between all v t d lv ∙ ap link_between sv in
    elim (cases_lt u v) [
      | inl l ↦ absurd (once u v s l (omega arith) (at_u s ∙ e ∙ sym (at_v s)))
      | inr l ↦ elim (cases_lt v u) [
        | inl g ↦ absurd (once v u s g (omega arith) (at_v s ∙ sym e ∙ sym (at_u s)))
        | inr g ↦ offset_once arcs m n i j h.arc k.arc (listed arcs m i s h).0 (listed arcs n j t k).0 (omega arith)
      ]
    ]

-- ---- the steps of signed arcs

-- s is step j of the signed arc a
pub record IsStepOf (arcs : List Path) (a : SignedArc) (j : ℕ) (s : Segment) : Type 0 where
  pub arc : a.arc < length arcs
  pub there : suc j < length (points_of arcs a)
  pub is : s ≡ record { start = point_at (points_of arcs a) j; stop = point_at (points_of arcs a) (suc j) }

abbrev signed : ℕ → Bool → SignedArc
signed n b = record { arc = n; is_reversed = b }

module _ (arcs : List Path) (n j : ℕ) (s : Segment) where
  abbrev arc : Path
  arc = arc_of arcs n

  fore_step : IsStepOf arcs (forward n) j s → IsStep arcs n j s
  fore_step h = record { arc = h.arc; there = h.there; is = h.is }

  of_step : IsStep arcs n j s → IsStepOf arcs (forward n) j s
  of_step h = record { arc = h.arc; there = h.there; is = h.is }

  back_step : IsStepOf arcs (backward n) j s → IsStep arcs n (length (arc_of arcs n) - 2 - j) (reversed s)
  back_step h =
      let size = length-reverse arc in
      let there : suc j < length (reverse arc) = h.there in
      let first : point_at (reverse arc) j ≡ point_at arc (suc (length arc - 2 - j)) =
      get_or-reverse arc j _ (omega arith) ∙ ap (point_at arc) (let e : length arc - 1 - j ≡ suc (length arc - 2 - j) = omega arith in e) in
      let second : point_at (reverse arc) (suc j) ≡ point_at arc (length arc - 2 - j) =
      get_or-reverse arc (suc j) _ (omega arith) ∙ ap (point_at arc) (let e : length arc - 1 - suc j ≡ length arc - 2 - j = omega arith in e) in
      record { arc = h.arc; there = omega arith; is = ap reversed h.is ∙ (λ i. record { start = second i; stop = first i }) }

  of_step_back : IsStep arcs n j (reversed s) → IsStepOf arcs (backward n) (length (arc_of arcs n) - 2 - j) s
  of_step_back h =
      let size = length-reverse arc in
      let there = h.there in
      let first : point_at (reverse arc) (length arc - 2 - j) ≡ point_at arc (suc j) =
      get_or-reverse arc (length arc - 2 - j) _ (omega arith) ∙ ap (point_at arc) (let e : length arc - 1 - (length arc - 2 - j) ≡ suc j = omega arith in e) in
      let second : point_at (reverse arc) (suc (length arc - 2 - j)) ≡ point_at arc j =
      get_or-reverse arc (suc (length arc - 2 - j)) _ (omega arith) ∙ ap (point_at arc) (let e : length arc - 1 - suc (length arc - 2 - j) ≡ j = omega arith in e) in
      let placed_there : suc (length arc - 2 - j) < length (reverse arc) = omega arith in
      record { arc = h.arc; there = placed_there; is = ap reversed h.is ∙ sym (λ i. record { start = first i; stop = second i }) }

module _ (S : List Segment) (arcs : List Path) (ordered : All (λ (l : Segment). IsBefore l.start l.stop) S) (along : GoAlong S arcs) where
  pub moving : (s : Segment) → Contains S (link_between s) → s.start ≢ s.stop
  moving s c e =
      let apart = moves (link_between s) (All-contains (λ (l : Segment). IsBefore l.start l.stop) S (link_between s) ordered c) in
      elim (link_is s) [
        | inl f ↦ apart (ap (λ (t : Segment). t.start) f ∙ e ∙ sym (ap (λ (t : Segment). t.stop) f))
        | inr f ↦ apart (ap (λ (t : Segment). t.start) f ∙ sym e ∙ sym (ap (λ (t : Segment). t.stop) f))
      ]

  -- each step along a link is a step of a signed arc
  pub find : (s : Segment) → Contains S (link_between s) → (a : SignedArc) × (j : ℕ) × IsStepOf arcs a j s
  find s c =
      let (u, in_all, e) = map-Contains link_between (steps_of_paths arcs) (link_between s) (along.all (link_between s) c) in
      let (path, (n, below, is_path), (j, there, is)) = flat_map-Contains steps arcs u in_all in
      let same : path ≡ arc_of arcs n = sym is_path ∙ get_or_default arcs n path [] below in
      let here : IsStep arcs n j u = placed arcs n j u below (subst (λ (p : Path). j < length (steps p)) same there) (subst (λ (p : Path). get_or (steps p) j u ≡ u) same is) in
      elim (one_link s u (sym e)) [
        | inl f ↦ (forward n, j, of_step arcs n j s (subst (IsStep arcs n j) (sym f) here))
        | inr f ↦ (backward n, length (arc_of arcs n) - 2 - j, of_step_back arcs n j s (subst (IsStep arcs n j) (sym (ap reversed f)) here))
      ]

  pub on_link : (n j : ℕ) (s : Segment) → IsStep arcs n j s → Contains S (link_between s)
  on_link n j s h =
      All-contains (Contains S) (links_of_arcs arcs) (link_between s) along.others
      (Contains-map link_between (steps_of_paths arcs) s (Contains-flat_map steps arcs (arc_of arcs n) s (n, h.arc, get_or_default arcs n (arc_of arcs n) [] h.arc) (j, (listed arcs n j s h).0, (listed arcs n j s h).1)))

  turned_link : (s : Segment) → Contains S (link_between (reversed s)) → link_between (reversed s) ≡ link_between s
  turned_link s c = link_turned s (λ e. moving (reversed s) c (sym e))

  pub on_link_of : (a : SignedArc) (j : ℕ) (s : Segment) → IsStepOf arcs a j s → Contains S (link_between s)
  on_link_of a j s = go a.is_reversed
    where
      go : (b : Bool) → IsStepOf arcs (record { arc = a.arc; is_reversed = b }) j s → Contains S (link_between s)
      go false h = on_link a.arc j s (fore_step arcs a.arc j s h)
      go true h =
          let c = on_link a.arc (length (arc_of arcs a.arc) - 2 - j) (reversed s) (back_step arcs a.arc j s h) in
          subst (Contains S) (turned_link s c) c

  -- two steps of a signed arc along one link are one
  pub one_place_of : (a : SignedArc) (j k : ℕ) (s t : Segment) → IsStepOf arcs a j s → IsStepOf arcs a k t → link_between s ≡ link_between t → j ≡ k
  one_place_of a j k s t = go a.is_reversed
    where
      go : (b : Bool) → IsStepOf arcs (record { arc = a.arc; is_reversed = b }) j s → IsStepOf arcs (record { arc = a.arc; is_reversed = b }) k t → link_between s ≡ link_between t → j ≡ k
      go false h g e = (one_place arcs along.once a.arc a.arc j k s t (fore_step arcs a.arc j s h) (fore_step arcs a.arc k t g) e).1
      go true h g e =
          let size = length-reverse (arc_of arcs a.arc) in
          let u : suc j < length (reverse (arc_of arcs a.arc)) = h.there in
          let v : suc k < length (reverse (arc_of arcs a.arc)) = g.there in
          let hb = back_step arcs a.arc j s h in
          let gb = back_step arcs a.arc k t g in
          let p = one_place arcs along.once a.arc a.arc (length (arc_of arcs a.arc) - 2 - j) (length (arc_of arcs a.arc) - 2 - k) (reversed s) (reversed t) hb gb
          (turned_link s (on_link a.arc (length (arc_of arcs a.arc) - 2 - j) (reversed s) hb) ∙ e ∙ sym (turned_link t (on_link a.arc (length (arc_of arcs a.arc) - 2 - k) (reversed t) gb))) in
          let same = p.1 in
          omega arith

  -- a step is a step of one signed arc alone
  pub one_arc_of : (a b : SignedArc) (j k : ℕ) (s : Segment) → IsStepOf arcs a j s → IsStepOf arcs b k s → (a ≡ b) × (j ≡ k)
  one_arc_of a b j k s = go a.is_reversed b.is_reversed a.arc b.arc j k
    where
      two_ways : (m n i l : ℕ) → IsStep arcs m i s → IsStep arcs n l (reversed s) → ⊥
      two_ways m n i l h g =
          let c = on_link n l (reversed s) g in
          let p = one_place arcs along.once m n i l s (reversed s) h g (sym (turned_link s c)) in
          moving s (on_link m i s h) (ap (λ (t : Segment). t.start) h.is ∙ (λ x. point_at (arc_of arcs (p.0 x)) (p.1 x)) ∙ sym (ap (λ (t : Segment). t.start) g.is))

      go : (x y : Bool) (m n i l : ℕ) → IsStepOf arcs (record { arc = m; is_reversed = x }) i s → IsStepOf arcs (record { arc = n; is_reversed = y }) l s
          → (signed m x ≡ signed n y) × (i ≡ l)
      go false false m n i l h g =
          let p = one_place arcs along.once m n i l s s (fore_step arcs m i s h) (fore_step arcs n l s g) refl in
          ((λ x. record { arc = p.0 x; is_reversed = false }), p.1)
      go true true m n i l h g =
          let p = one_place arcs along.once m n (length (arc_of arcs m) - 2 - i) (length (arc_of arcs n) - 2 - l) (reversed s) (reversed s) (back_step arcs m i s h) (back_step arcs n l s g) refl in
          let size_m = length-reverse (arc_of arcs m) in
          let size_n = length-reverse (arc_of arcs n) in
          let one = ap (λ (q : ℕ). length (arc_of arcs q)) p.0 in
          let u : suc i < length (reverse (arc_of arcs m)) = h.there in
          let v : suc l < length (reverse (arc_of arcs n)) = g.there in
          let same = p.1 in
          ((λ x. record { arc = p.0 x; is_reversed = true }), omega arith)
      go false true m n i l h g = absurd (two_ways m n i (length (arc_of arcs n) - 2 - l) (fore_step arcs m i s h) (back_step arcs n l s g))
      go true false m n i l h g = absurd (two_ways n m l (length (arc_of arcs m) - 2 - i) (fore_step arcs n l s g) (back_step arcs m i s h))

  -- a signed arc begins with its first step
  pub first_is : (a : SignedArc) → a.arc < length arcs → 1 < length (arc_of arcs a.arc) → IsStepOf arcs a 0 (first_step arcs a)
  first_is a l long = go a.is_reversed
    where
      go : (b : Bool) → IsStepOf arcs (record { arc = a.arc; is_reversed = b }) 0 (first_step arcs (record { arc = a.arc; is_reversed = b }))
      go false = record { arc = l; there = long; is = refl }
      go true =
          let path = arc_of arcs a.arc in
          let size = length-reverse path in
          let first : point_at (reverse path) 0 ≡ point_at path (length path - 1) = get_or-reverse path 0 _ (omega arith) ∙ ap (point_at path) (let e : length path - 1 - 0 ≡ length path - 1 = omega arith in e) in
          let second : point_at (reverse path) 1 ≡ point_at path (length path - 1 - 1) = get_or-reverse path 1 _ (omega arith) in
          let there : 1 < length (reverse path) = omega arith in
          record { arc = l; there = there; is = sym (λ i. record { start = first i; stop = second i }) }

  pub begins_with : (a : SignedArc) (s : Segment) → 1 < length (arc_of arcs a.arc) → IsStepOf arcs a 0 s → first_step arcs a ≡ s
  begins_with a s long h = (first_is a h.arc long).is ∙ sym h.is

  -- a step inside a signed arc begins none
  pub none_begins_inside : All (λ (path : Path). 1 < length path) arcs → (a b : SignedArc) (j : ℕ) (s : Segment) → IsStepOf arcs a j s → 0 < j → b.arc < length arcs → first_step arcs b ≡ s → ⊥
  none_begins_inside long a b j s h some l e =
      let first : IsStepOf arcs b 0 s = subst (IsStepOf arcs b 0) e (first_is b l (long b.arc [] l)) in
      let p = one_arc_of a b j 0 s h first in
      let same = p.1 in
      omega arith
