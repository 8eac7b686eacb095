-- The darts that signed arcs begin with, in the order of the table: after each comes the next in rotation.
use Rattle.std.proofs.Common.{◌≡◌, inl, inr, refl, sym, ap, ◌∙◌, subst, arith, ℕ, ◌+◌, ◌<◌, Bool, true, false, cond, List, length, get_or, All, Contains}
use Rattle.std.proofs.lemmas.Bool.{cases_lt}
use Rattle.std.proofs.lemmas.List.Elements.{All-contains}
use Rattle.plane_model.specs.Points.{GridPoint, Segment, Path, same_point, link_between, reversed}
use Rattle.plane_model.specs.Drawing.{steps}
use Rattle.std.proofs.lemmas.List.{get_or_default}
use Rattle.plane_model.specs.Arcs.{SignedArc, forward}
use Rattle.plane_model.specs.Arrangement.{IsArrangement, IsBefore}
use Rattle.plane_model.specs.Rotation.{Dart, tail, IsNext}
use Rattle.plane_model.proofs.PointOrder.{same_point_from}
use Rattle.plane_faces.specs.Around.{opposite, step_of_dart}
use Rattle.plane_faces.specs.Places.{Place, left_of}
use Rattle.plane_faces.specs.Rings.{dart_of_step}
use Rattle.plane_faces.proofs.UsedOnce.{same_step}
use Rattle.arc_table.specs.Along.{GoAlong}
use Rattle.arc_table.specs.Around.{IsTurned, comes_round_first, first_step, start_of}
use Rattle.arc_table.proofs.SignedArcs.{once_in}
use Rattle.face_laws.specs.Faces.{AreFreeInside, IsByNumber}
use Rattle.link_search.specs.PlaceNumbers.{place_of}
use Rattle.face_walk.specs.Sectors.{arc_at, first_in_row, goes_on, next_in_row, place_right_of}
use Rattle.face_walk.proofs.SectorLemmas.{first_within, next_on, next_off}
use Rattle.face_laws.proofs.DartLemmas.{Moves, dart_back, ends_differ, step_head, step_tail, twice_opposite}
use Rattle.face_laws.proofs.StepLemmas.{IsInnerDart, IsStep, arc_of, begins_with, first_link, none_starts_inside, one_place, step_moves, step_on, alone_inside, they_meet, where_it_starts}
use Rattle.face_laws.proofs.RoundLemmas.{IsRow, first_after_last, next_is_next, turns_first}
use Rattle.face_laws.proofs.TurnedRows.{first_starts, in_turn, is_there, none_after, none_before, on_starts, stands, start_is}
use Rattle.face_laws.proofs.DrawnLemmas.{left_at, right_at}
use Rattle.face_walk.specs.Rays.{AreLinksOf}
use Rattle.link_search.specs.declared.links.ArcLink.{ArcLink}

not_same : (s : Segment) → Moves s → same_point s.start s.stop ≡ false
not_same s m = go (same_point s.start s.stop) refl
  where
    go : (b : Bool) → same_point s.start s.stop ≡ b → b ≡ false
    go true e = absurd (ends_differ s m (same_point_from s.start s.stop e))
    go false e = refl

module _ (S : List Segment) (arr : IsArrangement S) (arcs : List Path) (long : All (λ arc. 1 < length arc) arcs) (along : GoAlong S arcs) where
  abbrev pub dart_of : SignedArc → Dart
  dart_of a = dart_of_step (first_step arcs a)

  pub dart_on : (a : SignedArc) → a.arc < length arcs → Contains S (dart_of a).link
  dart_on a l =
      let (j, s, h) = begins_with S arr arcs long along a l in
      subst (Contains S) (sym (first_link S arr arcs long along a j s h)) (step_on arcs S arr long along a.arc j s h.step)

  dart_moves : (a : SignedArc) → a.arc < length arcs → Moves (first_step arcs a)
  dart_moves a l = All-contains (λ l. IsBefore l.start l.stop) S (dart_of a).link arr.ordered (dart_on a l)

  -- signed arcs that begin with one dart are one
  one_arc : (a b : SignedArc) → a.arc < length arcs → b.arc < length arcs → dart_of a ≡ dart_of b → a ≡ b
  one_arc a b l m e =
      let (i, s, h) = begins_with S arr arcs long along a l in
      let (j, t, k) = begins_with S arr arcs long along b m in
      let first : first_step arcs a ≡ first_step arcs b = sym (same_step (first_step arcs a)) ∙ ap step_of_dart e ∙ same_step (first_step arcs b) in
      let links : link_between s ≡ link_between t = sym (first_link S arr arcs long along a i s h) ∙ ap (λ (d : Dart). d.link) e ∙ first_link S arr arcs long along b j t k in
      let (same, at) = one_place arcs along.once a.arc b.arc i j s t h.step k.step links in
      let steps_are : s ≡ t = one_step a.arc b.arc i j s t h.step k.step same at in
      let way : a.is_reversed ≡ b.is_reversed = ways a.is_reversed b.is_reversed s (sym h.is ∙ first ∙ k.is ∙ ap (λ (x : Segment). cond b.is_reversed (reversed x) x) (sym steps_are)) (step_moves arcs S arr long along a.arc i s h.step) in
      (λ x. record { arc = same x; is_reversed = way x })
    where
      one_step : (m n i j : ℕ) (s t : Segment) → IsStep arcs m i s → IsStep arcs n j t → m ≡ n → i ≡ j → s ≡ t
      one_step m n i j s t h k f g = sym h.is ∙ get_or_default (steps (arc_of arcs m)) i s t h.there ∙ (λ x. get_or (steps (arc_of arcs (f x))) (g x) t) ∙ k.is

      ways : (p q : Bool) (s : Segment) → cond p (reversed s) s ≡ cond q (reversed s) s → Moves s → p ≡ q
      ways true true s e m = refl
      ways false false s e m = refl
      ways true false s e m = absurd (ends_differ s m (ap (λ (x : Segment). x.stop) e))
      ways false true s e m = absurd (ends_differ s m (ap (λ (x : Segment). x.start) e))

  -- what stands on both sides of the first dart of a signed arc
  module _ {A : Type 0} (links : List ArcLink) (all : AreLinksOf arcs links) (g : ℕ → A) (f : Place → A) (by : IsByNumber arcs g f) where
    pub first_sides : (a : SignedArc) → a.arc < length arcs → (f (left_of (dart_of a)) ≡ g (place_of a)) × (f (left_of (opposite (dart_of a))) ≡ g (place_right_of a))
    first_sides a l = let (j, s, h) = begins_with S arr arcs long along a l in go a.is_reversed j s h.step h.is
      where
        go : (b : Bool) (j : ℕ) (s : Segment) → IsStep arcs a.arc j s → first_step arcs a ≡ cond b (reversed s) s → (f (left_of (dart_of a)) ≡ g (place_of (record { arc = a.arc; is_reversed = b }))) × (f (left_of (opposite (dart_of a))) ≡ g (place_right_of (record { arc = a.arc; is_reversed = b })))
        go false j s h e = (
          ap (λ (x : Segment). f (left_of (dart_of_step x))) e ∙ left_at arcs links all g f by a.arc j s h,
          ap (λ (x : Segment). f (left_of (opposite (dart_of_step x)))) e ∙ right_at arcs links all g f by a.arc j s h,
        )
        go true j s h e =
            let back : dart_of_step (reversed s) ≡ opposite (dart_of_step s) = dart_back s (step_moves arcs S arr long along a.arc j s h) in (
              ap (λ (x : Segment). f (left_of (dart_of_step x))) e ∙ ap (λ (d : Dart). f (left_of d)) back ∙ right_at arcs links all g f by a.arc j s h,
              ap (λ (x : Segment). f (left_of (opposite (dart_of_step x)))) e ∙ ap (λ (d : Dart). f (left_of (opposite d))) back ∙ ap (λ (d : Dart). f (left_of d)) (twice_opposite (dart_of_step s))
                  ∙ left_at arcs links all g f by a.arc j s h,
            )

  -- ---- rows

  module _ (free : AreFreeInside S arcs) (starts : List GridPoint) (outs : List SignedArc) (t : IsTurned arcs starts outs) where
    abbrev dart_at : ℕ → Dart
    dart_at k = dart_of (arc_at outs k)

    abbrev StartsAt : GridPoint → ℕ → Type 0
    StartsAt p k = (k < length outs) × (start_of arcs (arc_at outs k) ≡ p)

    there : (k : ℕ) → k < length outs → (arc_at outs k).arc < length arcs
    there k l = is_there arcs starts outs t k l

    begins : (p : GridPoint) (i : ℕ) → StartsAt p i → (c : Dart) → Contains S c.link → tail c ≡ p → (k : ℕ) × StartsAt p k × (dart_at k ≡ c)
    begins p i w c h e = elim (where_it_starts arcs S arr long along c h) [
      | inl r ↦ (
          let (a, first) = r in
          let (k, l, is) = stands arcs starts outs t a first.arc in
          (k, (l, ap (start_of arcs) is ∙ sym (step_tail (first_step arcs a)) ∙ ap tail (sym first.dart) ∙ e), ap dart_of is ∙ sym first.dart))
      | inr r ↦ (
          let (n, j, s, u, inner) = r in
          absurd (none_starts_inside S arr arcs long along n j s u inner.before inner.after (alone_inside S arr arcs long along free n j s u inner.before inner.after) (arc_at outs i) (there i w.0)
          (w.1 ∙ sym e ∙ starts_there n j s u inner)))
    ]
      where
        starts_there : (n j : ℕ) (s u : Segment) → IsInnerDart arcs n j s u c → tail c ≡ u.start
        starts_there n j s u inner = elim inner.dart [
          | inl f ↦ ap tail f ∙ step_tail u
          | inr f ↦ ap tail f ∙ step_head s ∙ they_meet arcs n j s u inner.before inner.after
        ]

    row : (p : GridPoint) (i : ℕ) → StartsAt p i → IsRow S p (StartsAt p) dart_at
    row p i w = record {
      here = here;
      turns = λ j k hj hk jk.
          (let aj = arc_at outs j in
          let ak = arc_at outs k in
          let lj = there j hj.0 in
          let lk = there k hk.0 in
          turns_first S arr p (dart_at j) (dart_at k) (here j hj) (here k hk) (dart_moves aj lj) (dart_moves ak lk) (differ j k hj.0 hk.0 jk) (still aj lj) (still ak lk)
          ((λ x. comes_round_first (same_step (first_step arcs ak) x) (same_step (first_step arcs aj) x)) ∙ in_turn arcs starts outs t j k (omega arith) hk.0 (hk.1 ∙ sym hj.1)));
      all = begins p i w;
    }
      where
        here : (k : ℕ) → StartsAt p k → Contains S (dart_at k).link × (tail (dart_at k) ≡ p)
        here k h = (dart_on (arc_at outs k) (there k h.0), step_tail (first_step arcs (arc_at outs k)) ∙ h.1)

        still : (a : SignedArc) → a.arc < length arcs → same_point (step_of_dart (dart_of a)).start (step_of_dart (dart_of a)).stop ≡ false
        still a l = (λ x. same_point (same_step (first_step arcs a) x).start (same_step (first_step arcs a) x).stop) ∙ not_same (first_step arcs a) (dart_moves a l)

        differ : (j k : ℕ) → j < length outs → k < length outs → j < k → dart_at j ≡ dart_at k → ⊥
        differ j k lj lk jk e = once_in (length arcs) outs t.all j k (forward 0) jk lk (one_arc (arc_at outs j) (arc_at outs k) (there j lj) (there k lk) e)

    -- the arc after the one at place i begins with the next dart in rotation
    pub next_there : (i : ℕ) → i < length outs → (next_in_row starts i < length outs) × IsNext S (dart_at i) (dart_at (next_in_row starts i))
    next_there i l = go (goes_on starts i) refl
      where
        here : StartsAt (start_of arcs (arc_at outs i)) i
        here = (l, refl)

        go : (b : Bool) → goes_on starts i ≡ b → (next_in_row starts i < length outs) × IsNext S (dart_at i) (dart_at (next_in_row starts i))
        go true e =
            let (m, s) = on_starts arcs starts outs t i e in
            let is : next_in_row starts i ≡ i + 1 = next_on starts i e in
            let second : StartsAt (start_of arcs (arc_at outs i)) (i + 1) = (m, sym (start_is arcs starts outs t (i + 1) m) ∙ s ∙ start_is arcs starts outs t i l) in
            subst (λ (k : ℕ). (k < length outs) × IsNext S (dart_at i) (dart_at k)) (sym is)
            (m, next_is_next S arr (start_of arcs (arc_at outs i)) (StartsAt (start_of arcs (arc_at outs i))) dart_at (row (start_of arcs (arc_at outs i)) i here) i (i + 1) refl here second)
        go false e =
            let first : ℕ = first_in_row starts i in
            let within = first_within starts i in
            let m : first < length outs = omega arith in
            let is : next_in_row starts i ≡ first = next_off starts i e in
            let begin : StartsAt (start_of arcs (arc_at outs i)) first = (m, sym (start_is arcs starts outs t first m) ∙ first_starts arcs starts outs t i l ∙ start_is arcs starts outs t i l) in
            subst (λ (k : ℕ). (k < length outs) × IsNext S (dart_at i) (dart_at k)) (sym is) (
              m,
              first_after_last S arr (start_of arcs (arc_at outs i)) (StartsAt (start_of arcs (arc_at outs i))) dart_at (row (start_of arcs (arc_at outs i)) i here) first i begin here
                  (λ k h.
                  let same = start_is arcs starts outs t k h.0 ∙ h.1 ∙ sym (start_is arcs starts outs t i l) in (
                    elim (cases_lt k first) [ inl less ↦ absurd (none_before arcs starts outs t i k l less same) | inr more ↦ more ],
                    elim (cases_lt i k) [ inl less ↦ absurd (none_after arcs starts outs t i k e less h.0 same) | inr more ↦ more ],
                  )),
            )
