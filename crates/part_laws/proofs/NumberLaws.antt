-- The number of the arc of each step round a ring.
use Rattle.std.proofs.Common.{◌≡◌, inl, inr, refl, sym, ap, ◌∙◌, subst, arith, ℕ, zero, suc, ◌<◌, ◌≤◌, Bool, true, false, ◌||◌, nat_lt, List, [], ◌∷◌, map, reverse, length, get_or, All, Contains, pos}
use Rattle.std.specs.Prelude.{◌≢◌, if◌then◌else◌}
use Rattle.std.specs.List.{flat_map}
use Rattle.std.proofs.lemmas.Bool.{and_parts, cases_Bool, false_from_ne_true, ltb-true}
use Rattle.std.proofs.lemmas.List.{get_or_append_left, get_or-map, length-append, length-map}
use Rattle.std.proofs.lemmas.List.Elements.{All-head, All-tail, Contains-get_or}
use Rattle.std.proofs.lemmas.List.Folds.{Any-from_list_any, list_any_at}
use Rattle.std.proofs.lemmas.List.Sorted.{Contains-permutation, IsPermutation-sym}
use Rattle.std.proofs.Math.Bool.{or-true}
use Rattle.plane_parity.proofs.Abscissa.{same_link-self}
use Rattle.lists.specs.Lists.{has, least_of, place_of}
use Rattle.lists.proofs.Members.{Contains-map, flat_map-Contains, map-Contains}
use Rattle.plane_model.specs.Points.{Segment, Path, link_between, reversed, same_point, same_segment}
use Rattle.plane_model.specs.Drawing.{steps}
use Rattle.plane_model.specs.Arcs.{SignedArc, arc_number, goes_along, points_of}
use Rattle.plane_model.specs.Arrangement.{IsArrangement, IsBefore}
use Rattle.plane_model.specs.Rings.{least_arc}
use Rattle.plane_model.proofs.PointOrder.{same_point_from, segment_is}
use Rattle.arc_table.specs.Along.{GoAlong}
use Rattle.arc_table.specs.Around.{start_of}
use Rattle.arc_table.proofs.Along.{links_turned}
use Rattle.arc_table.proofs.Proper.{link_turned, one_link}
use Rattle.arc_table.proofs.DrawnPaths.{points_counted}
use Rattle.face_laws.proofs.DartLemmas.{Moves, ends_differ}
use Rattle.face_laws.proofs.StepLemmas.{IsStep, arc_of, one_place, step_at, step_moves, steps_counted}
use Rattle.ring_trace.specs.Pairing.{stop_of}
use Rattle.ring_trace.specs.Traced.{BeginsWithLeast}
use Rattle.ring_trace.specs.Turns.{first_number, round_of}
use Rattle.ring_trace.specs.Ways.{IsSimpleRing}
use Rattle.part_laws.proofs.ArcCounts.{ring_steps}

-- ---- lists

place_only : {X : Type 0} (test : X → Bool) (xs : List X) (n : ℕ) (d : X) → n < length xs → test (get_or xs n d) ≡ true → ((m : ℕ) → m < length xs → test (get_or xs m d) ≡ true → m ≡ n) → place_of test xs ≡ n
place_only test [] n d l e only = absurd (omega arith)
place_only test (x ∷ xs) zero d l e only = ap (λ (b : Bool). if b then 0 else suc (place_of test xs)) e
place_only test (x ∷ xs) (suc n) d l e only =
    ap (λ (b : Bool). if b then 0 else suc (place_of test xs)) (false_from_ne_true (test x) (λ f. let g : 0 ≡ suc n = only 0 (omega arith) f in omega arith))
    ∙ ap suc (place_only test xs n d (omega arith) e (λ m k f. let g : suc m ≡ suc n = only (suc m) (omega arith) f in omega arith))

least_above : (xs : List ℕ) (m d : ℕ) → 0 < length xs → All (λ x. m ≤ x) xs → m ≤ least_of nat_lt d xs
least_above [] m d l h = absurd (omega arith)
least_above (x ∷ []) m d l h = All-head (λ y. m ≤ y) x [] h
least_above (x ∷ y ∷ rest) m d l h = go (nat_lt (least_of nat_lt d (y ∷ rest)) x) (least_above (y ∷ rest) m d (omega arith) (All-tail (λ z. m ≤ z) x (y ∷ rest) h))
  where
    go : (b : Bool) → m ≤ least_of nat_lt d (y ∷ rest) → m ≤ (if b then least_of nat_lt d (y ∷ rest) else x)
    go true later = later
    go false later = All-head (λ z. m ≤ z) x (y ∷ rest) h

least_is_first : (xs : List ℕ) (m : ℕ) → 0 < length xs → get_or xs 0 0 ≡ m → All (λ x. m ≤ x) xs → least_of nat_lt 0 xs ≡ m
least_is_first [] m l e h = absurd (omega arith)
least_is_first (x ∷ []) m l e h = e
least_is_first (x ∷ y ∷ rest) m l e h =
    let more = least_above (y ∷ rest) m 0 (omega arith) (All-tail (λ z. m ≤ z) x (y ∷ rest) h) in
    ap (λ (b : Bool). if b then least_of nat_lt 0 (y ∷ rest) else x)
    (false_from_ne_true (nat_lt (least_of nat_lt 0 (y ∷ rest)) x) (λ f. let less = ltb-true (least_of nat_lt 0 (y ∷ rest)) x f in omega arith))
    ∙ e

-- ---- steps and arcs

module _ (S : List Segment) (arr : IsArrangement S) (arcs : List Path) (long : All (λ arc. 1 < length arc) arcs) (along : GoAlong S arcs) where
  abbrev IsAlong : ℕ → Segment → Type 0
  IsAlong n s = (j : ℕ) × (t : Segment) × IsStep arcs n j t × (link_between s ≡ link_between t)

  -- a step of a signed arc goes along a link of its arc
  step_of : (a : SignedArc) → a.arc < length arcs → (s : Segment) → Contains (steps (points_of arcs a)) s → IsAlong a.arc s
  step_of a below s = go a.is_reversed
    where
      go : (b : Bool) → Contains (steps (points_of arcs (record { arc = a.arc; is_reversed = b }))) s → IsAlong a.arc s
      go false (j, l, is) = (j, s, record { arc = below; there = l; is = is }, refl)
      go true c =
          let arc : Path = arc_of arcs a.arc in
          let differ : All (λ (t : Segment). t.start ≢ t.stop) (steps arc) = (λ j d l. ends_differ (get_or (steps arc) j d) (step_moves arcs S arr long along a.arc j (get_or (steps arc) j d) (step_at arcs a.arc j d below l))) in
          let in_links = Contains-permutation (map link_between (steps (reverse arc))) (map link_between (steps arc)) (link_between s)
          (IsPermutation-sym (map link_between (steps arc)) (map link_between (steps (reverse arc))) (links_turned arc differ)) (Contains-map link_between (steps (reverse arc)) s c) in
          let (t, (j, l, is), e) = map-Contains link_between (steps arc) (link_between s) in_links in
          (j, t, record { arc = below; there = l; is = is }, sym e)

  has_step : (n j : ℕ) (t : Segment) → IsStep arcs n j t → has same_segment (steps (arc_of arcs n)) t ≡ true
  has_step n j t h = list_any_at (same_segment t) (steps (arc_of arcs n)) j t h.there (ap (same_segment t) h.is ∙ same_link-self t)

  goes_if : (n : ℕ) (s : Segment) → IsAlong n s → goes_along s (arc_of arcs n) ≡ true
  goes_if n s (j, t, h, e) = elim (one_link s t e) [
    | inl is ↦ ap (λ (b : Bool). b || has same_segment (steps (arc_of arcs n)) (reversed s)) (ap (has same_segment (steps (arc_of arcs n))) is ∙ has_step n j t h)
    | inr is ↦
        ap (λ (b : Bool). has same_segment (steps (arc_of arcs n)) s || b) (ap (λ (u : Segment). has same_segment (steps (arc_of arcs n)) (reversed u)) is ∙ has_step n j t h)
        ∙ or-true (has same_segment (steps (arc_of arcs n)) s)
  ]

  step_from : (n : ℕ) (s : Segment) → n < length arcs → has same_segment (steps (arc_of arcs n)) s ≡ true → (j : ℕ) × IsStep arcs n j s
  step_from n s below e =
      let (i, y, l, at, same) = Any-from_list_any (same_segment s) (steps (arc_of arcs n)) e in
      let (starts, stops) = and_parts (same_point s.start y.start) (same_point s.stop y.stop) same in
      let is : s ≡ y = segment_is s y (same_point_from s.start y.start starts) (same_point_from s.stop y.stop stops) in
      (i, subst (IsStep arcs n i) (sym is) (record { arc = below; there = l; is = at }))

  only_if : (n : ℕ) (s : Segment) → n < length arcs → Moves s → goes_along s (arc_of arcs n) ≡ true → IsAlong n s
  only_if n s below moves e = elim (cases_Bool (has same_segment (steps (arc_of arcs n)) s)) [
    | inl f ↦ (let (j, h) = step_from n s below f in (j, s, h, refl))
    | inr f ↦ (
        let back : has same_segment (steps (arc_of arcs n)) (reversed s) ≡ true = sym (ap (λ (b : Bool). b || has same_segment (steps (arc_of arcs n)) (reversed s)) f) ∙ e in
        let (j, h) = step_from n (reversed s) below back in
        (j, reversed s, h, sym (link_turned s (ends_differ s moves))))
  ]

  number_of : (a : SignedArc) → a.arc < length arcs → (s : Segment) → Contains (steps (points_of arcs a)) s → arc_number arcs s ≡ a.arc
  number_of a below s c =
      let (j, t, h, e) = step_of a below s c in
      let moves : Moves s = subst (λ (l : Segment). IsBefore l.start l.stop) (sym e) (step_moves arcs S arr long along a.arc j t h) in
      place_only (goes_along s) arcs a.arc [] below (goes_if a.arc s (j, t, h, e))
      (λ m l g. let (i, u, k, f) = only_if m s l moves g in (one_place arcs along.once m a.arc i j u t k h (sym f ∙ e)).0)

  -- ---- round a ring

  abbrev pub steps_along : List SignedArc → List Segment
  steps_along ring = flat_map (λ (a : SignedArc). steps (points_of arcs a)) ring

  pub some_steps : (a : SignedArc) → a.arc < length arcs → 0 < length (steps (points_of arcs a))
  some_steps a below =
      let l = long a.arc [] below in
      let m = points_counted arcs a in
      let n = steps_counted (points_of arcs a) (omega arith) in
      omega arith

  pub first_along : (a : SignedArc) (rest : List SignedArc) → a.arc < length arcs → (d : Segment) → get_or (steps_along (a ∷ rest)) 0 d ≡ get_or (steps (points_of arcs a)) 0 d
  first_along a rest below d = get_or_append_left (steps (points_of arcs a)) (steps_along rest) d 0 (some_steps a below)

  -- the least number of an arc round a ring is the one that the ring begins with, where that is the least
  pub least_is : (ring : List SignedArc) → All (λ a. a.arc < length arcs) ring → BeginsWithLeast ring → IsSimpleRing (start_of arcs) (stop_of arcs) ring → least_arc arcs (round_of arcs ring) ≡ first_number ring
  least_is [] below least simple = absurd least
  least_is (a ∷ rest) below least simple =
      let la : a.arc < length arcs = All-head (λ b. b.arc < length arcs) a rest below in
      let xs = steps_along (a ∷ rest) in
      let some = some_steps a la in
      let joined = length-append (steps (points_of arcs a)) (steps_along rest) in
      let many = length-map xs (arc_number arcs) in
      let none : Segment = record { start = record { x = pos 0; y = pos 0 }; stop = record { x = pos 0; y = pos 0 } } in
      let head : get_or (map (arc_number arcs) xs) 0 0 ≡ a.arc =
      get_or-map (arc_number arcs) xs 0 none 0 (omega arith) ∙ ap (arc_number arcs) (first_along a rest la none)
      ∙ number_of a la (get_or (steps (points_of arcs a)) 0 none) (Contains-get_or (steps (points_of arcs a)) 0 none some) in
      let above : All (λ n. a.arc ≤ n) (map (arc_number arcs) xs) = (λ k d l.
      let (s, c, is) = map-Contains (arc_number arcs) xs (get_or (map (arc_number arcs) xs) k d) (Contains-get_or (map (arc_number arcs) xs) k d l) in
      let (b, (i, m, here), in_b) = flat_map-Contains (λ (x : SignedArc). steps (points_of arcs x)) (a ∷ rest) s c in
      let lb : b.arc < length arcs = subst (λ (x : SignedArc). x.arc < length arcs) here (below i b m) in
      let number = number_of b lb s in_b in
      let from : a.arc ≤ b.arc = subst (λ (x : SignedArc). a.arc ≤ x.arc) here (at_least i b m) in
      omega arith) in
      ap (λ (ss : List Segment). least_of nat_lt 0 (map (arc_number arcs) ss)) (ring_steps S arr arcs long along (a ∷ rest) (omega arith) below simple)
      ∙ least_is_first (map (arc_number arcs) xs) a.arc (omega arith) head above
    where
      at_least : (i : ℕ) (d : SignedArc) → i < length (a ∷ rest) → a.arc ≤ (get_or (a ∷ rest) i d).arc
      at_least zero d l = omega arith
      at_least (suc i) d l = least i d (omega arith)
