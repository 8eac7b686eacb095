-- Each sector at a vertex has a point that sees the vertex.
use Rattle.std.proofs.Common.{◌≡◌, inl, inr, refl, sym, ap, subst, ◌∙◌, arith, suc, Bool, true, false, List}
use Rattle.std.proofs.Math.IntN.{ℤ, pos, ◌+ℤ◌, ◌*ℤ◌, ◌-ℤ◌, neg_ℤ}
use Rattle.std.specs.Prelude.{Contains, ◌≤ℤ◌, ◌<ℤ◌}
use Rattle.std.proofs.lemmas.Int.{ints}
use Rattle.std.proofs.lemmas.List.Elements.{All-contains}
use Rattle.plane_parity.proofs.Mix.{nonneg_of_positive}
use Rattle.plane_algebra.proofs.Ring.{ring, ◌⊞◌, ◌⊟◌, ◌⊠◌, ⊖◌, num, ◌≐◌}
use Rattle.plane_algebra.proofs.Sign.{mul-positive, mul-nonneg}
use Rattle.plane_model.specs.Points.{RationalPoint, GridPoint, Segment}
use Rattle.plane_model.specs.Arrangement.{IsArrangement, IsDistinct, IsBefore}
use Rattle.plane_model.specs.Rotation.{Dart, tail, precedes, is_passed}
use Rattle.plane_model.specs.Sees.{SeesPoint}
use Rattle.plane_faces.proofs.Around.{precedes_not_itself}
use Rattle.point_laws.specs.Sight.{SectorsAreSeen}
use Rattle.plane_parity.proofs.NearPoint.{near, neg_positive}
use Rattle.point_laws.proofs.Ways.{way, area, heads, Passed, Aside, not_passed}
use Rattle.point_laws.proofs.NextTo.{by_ways, toward, turned_left, kinds, count, beside_dart, sees_vertex}
use Rattle.point_laws.proofs.Grown.{grow, kind, same_ungrown}
use Rattle.point_laws.proofs.SightLemmas.{seeing_is_off}
use Rattle.point_laws.proofs.Spoke.{spoke, spoke_aside, spoke_turns}
use Rattle.point_laws.proofs.Sectors.{q, all, all_arranged, grow_dart, tail_grown, grown_there, Clockwise, label_seen}

-- ---- the last and the first are not passed

last_not_passed : (a b : Bool) → b ≡ false → Passed a a b ≡ false
last_not_passed true b e = e
last_not_passed false b e = e

first_not_passed : (a b : Bool) → a ≡ false → Passed a b b ≡ false
first_not_passed true b e = let f : true ≡ false = e in absurd (cc)
first_not_passed false true e = refl
first_not_passed false false e = refl

-- ---- grown steps

grown_area : (w : ℤ) (a b : GridPoint) → area (grow w a) b ≡ w *ℤ area a b
grown_area w a b = go w a.x a.y b.x b.y
  where
    go : (w a b c d : ℤ) → (w *ℤ a) *ℤ d -ℤ (w *ℤ b) *ℤ c ≡ w *ℤ (a *ℤ d -ℤ b *ℤ c)
    go = ring 5 (λ w a b c d. (w ⊠ a) ⊠ d ⊟ (w ⊠ b) ⊠ c ≐ w ⊠ (a ⊠ d ⊟ b ⊠ c)) tt

both_grown : (w : ℤ) (a b : GridPoint) → area (grow w a) (grow w b) ≡ w *ℤ (w *ℤ area a b)
both_grown w a b = go w a.x a.y b.x b.y
  where
    go : (w a b c d : ℤ) → (w *ℤ a) *ℤ (w *ℤ d) -ℤ (w *ℤ b) *ℤ (w *ℤ c) ≡ w *ℤ (w *ℤ (a *ℤ d -ℤ b *ℤ c))
    go = ring 5 (λ w a b c d. (w ⊠ a) ⊠ (w ⊠ d) ⊟ (w ⊠ b) ⊠ (w ⊠ c) ≐ w ⊠ (w ⊠ (a ⊠ d ⊟ b ⊠ c))) tt

module _ (w : ℤ) (h : pos 0 <ℤ w) where
  low_times : (a : ℤ) → a <ℤ pos 0 → (w *ℤ a) <ℤ pos 0
  low_times a i = back (w *ℤ neg_ℤ a) (w *ℤ a) (go w a) (mul-positive w (neg_ℤ a) h (neg_positive a i))
    where
      go : (w a : ℤ) → w *ℤ neg_ℤ a ≡ neg_ℤ (w *ℤ a)
      go = ring 2 (λ w a. w ⊠ ⊖ a ≐ ⊖ (w ⊠ a)) tt

      back : (a b : ℤ) → a ≡ neg_ℤ b → pos 0 <ℤ a → b <ℤ pos 0
      back a b e i = omega (arith, ints)

  aside_grown : (a b u : GridPoint) → Aside a b u → Aside (grow w a) (grow w b) u
  unfolding Aside
  aside_grown a b u s = elim s [
    | inl i ↦ inl (subst (λ (t : ℤ). t <ℤ pos 0) (sym (grown_area w b u)) (low_times (area b u) i.0), subst (λ (t : ℤ). pos 0 ≤ℤ t) (sym (both_grown w a b)) (mul-nonneg w (w *ℤ area a b) (nonneg_of_positive w h) (mul-nonneg w (area a b) (nonneg_of_positive w h) i.1)))
    | inr i ↦ inr (subst (λ (t : ℤ). pos 0 <ℤ t) (sym (grown_area w b u)) (mul-positive w (area b u) h i.0), subst (λ (t : ℤ). t <ℤ pos 0) (sym (both_grown w a b)) (low_times (w *ℤ area a b) (low_times (area a b) i.1)))
  ]

-- ---- the dart is the last before the spoke

module _ (S : List Segment) (arr : IsArrangement S) (distinct : IsDistinct S) (d : Dart) (cd : Contains S d.link) where
  abbrev z : RationalPoint
  z = beside_dart S arr d cd

  abbrev sees : SeesPoint S (tail d) (beside_dart S arr d cd)
  sees = sees_vertex S arr d cd

  abbrev spoke_dart : Dart
  spoke_dart = q S arr distinct d cd (beside_dart S arr d cd) (sees_vertex S arr d cd)

  abbrev links : List Segment
  links = all S arr distinct d cd (beside_dart S arr d cd) (sees_vertex S arr d cd)

  abbrev large : Dart → Dart
  large = grow_dart S arr distinct d cd (beside_dart S arr d cd) (sees_vertex S arr d cd)

  way_large : (e : Dart) → way (large e) ≡ grow z.W (way e)
  way_large e = go e.link e.forward
    where
      spread : (w a b : ℤ) → w *ℤ a -ℤ w *ℤ b ≡ w *ℤ (a -ℤ b)
      spread = ring 3 (λ w a b. w ⊠ a ⊟ w ⊠ b ≐ w ⊠ (a ⊟ b)) tt

      between : (a b : GridPoint) → ◌≡◌ {A = GridPoint} (record { x = (grow z.W b).x -ℤ (grow z.W a).x; y = (grow z.W b).y -ℤ (grow z.W a).y }) (grow z.W (record { x = b.x -ℤ a.x; y = b.y -ℤ a.y }))
      between a b = (λ i. record { x = spread z.W b.x a.x i; y = spread z.W b.y a.y i })

      go : (l : Segment) (f : Bool) → way (large (record { link = l; forward = f })) ≡ grow z.W (way (record { link = l; forward = f }))
      go l true = between l.start l.stop
      go l false = between l.stop l.start

  way_spoke : way spoke_dart ≡ toward S arr d cd
  unfolding near
  way_spoke =
      let s = spoke S arr d cd z sees in
      (λ i. record { x = (s.stop i).x -ℤ (s.start i).x; y = (s.stop i).y -ℤ (s.start i).y })
      ∙ (λ i. record { x = rest (pos (suc (count S arr d cd))) (tail d).x (toward S arr d cd).x i; y = rest (pos (suc (count S arr d cd))) (tail d).y (toward S arr d cd).y i })
    where
      rest : (t a u : ℤ) → (t *ℤ a +ℤ u) -ℤ (t *ℤ pos 1) *ℤ a ≡ u
      rest = ring 3 (λ t a u. (t ⊠ a ⊞ u) ⊟ (t ⊠ num (pos 1)) ⊠ a ≐ u) tt

  in_order : (l : Segment) → Contains links l → IsBefore l.start l.stop
  in_order l c = All-contains (λ k. IsBefore k.start k.stop) links l (all_arranged S arr distinct d cd z sees).ordered c

  there : (e : Dart) → Contains S e.link → Contains links (large e).link
  there e c = grown_there S arr distinct d cd z sees e.link c

  same_tail : tail spoke_dart ≡ tail (large d)
  same_tail = (spoke S arr d cd z sees).start ∙ sym (tail_grown S arr distinct d cd z sees d)

  aside_not_passed : (e : Dart) → Contains S e.link → tail (large e) ≡ tail (large d) → Aside (way d) (way e) (toward S arr d cd) → is_passed (large d) spoke_dart (large e) ≡ false
  aside_not_passed e ce s aside =
      (λ i. Passed (by_ways (large d) (large e) s i) (by_ways (large d) spoke_dart same_tail i) (by_ways (large e) spoke_dart (same_tail ∙ sym s) i))
      ∙ not_passed (way (large d)) (way (large e)) (way spoke_dart) d.forward e.forward spoke_dart.forward
      (heads (large d) (in_order (large d).link (there d cd))) (heads (large e) (in_order (large e).link (there e ce))) (heads spoke_dart (spoke S arr d cd z sees).before)
      (subst (λ (a : GridPoint). pos 0 <ℤ area a (way spoke_dart)) (sym (way_large d)) (subst (λ (b : GridPoint). pos 0 <ℤ area (grow z.W (way d)) b) (sym way_spoke)
      (subst (λ (t : ℤ). pos 0 <ℤ t) (sym (grown_area z.W (way d) (toward S arr d cd))) (mul-positive z.W (area (way d) (toward S arr d cd)) z.positive (turned_left S arr d cd)))))
      (subst (λ (a : GridPoint). Aside a (way (large e)) (way spoke_dart)) (sym (way_large d)) (subst (λ (b : GridPoint). Aside (grow z.W (way d)) b (way spoke_dart)) (sym (way_large e)) (subst (λ (c : GridPoint). Aside (grow z.W (way d)) (grow z.W (way e)) c) (sym way_spoke)
      (aside_grown z.W z.positive (way d) (way e) (toward S arr d cd) aside))))

  nothing_between : (c : Dart) → Contains links c.link → tail c ≡ tail (large d) → is_passed (large d) spoke_dart c ≡ false
  nothing_between c cc' s = elim (kind z.W z.positive S arr (spoke S arr d cd z sees).dart.link (spoke S arr d cd z sees).before (spoke_aside S arr d cd z sees) c.link cc') [
    | inl e ↦ subst (λ (x : Dart). is_passed (large d) spoke_dart x ≡ false) (sym (spoke_turns S arr d cd z sees c e (s ∙ tail_grown S arr distinct d cd z sees d)))
        (last_not_passed (precedes (large d) spoke_dart) (precedes spoke_dart spoke_dart) (precedes_not_itself spoke_dart))
    | inr m ↦ (
        let (l, cl, e) = m in
        let e₀ : Dart = record { link = l; forward = c.forward } in
        let same : large e₀ ≡ c = (λ i. record { link = e i; forward = c.forward }) in
        let s₀ : tail (large e₀) ≡ tail (large d) = ap tail same ∙ s in
        let at_vertex : tail e₀ ≡ tail d = same_ungrown z.W z.positive (tail e₀) (tail d) (sym (tail_grown S arr distinct d cd z sees e₀) ∙ s₀ ∙ tail_grown S arr distinct d cd z sees d) in
        subst (λ (x : Dart). is_passed (large d) spoke_dart x ≡ false) same
        (elim (kinds S arr d cd e₀ cl at_vertex) [
          | inl i ↦ subst (λ (x : Dart). is_passed (large d) spoke_dart (large x) ≡ false) (sym i) (first_not_passed (precedes (large d) (large d)) (precedes (large d) spoke_dart) (precedes_not_itself (large d)))
          | inr a ↦ aside_not_passed e₀ cl s₀ a
        ]))
  ]

  pub last_before : Clockwise S arr distinct d cd (beside_dart S arr d cd) (sees_vertex S arr d cd)
  last_before = record { e = d; there = cd; at_vertex = refl; next = record { same_tail = same_tail; nothing_between = nothing_between } }

pub sectors_are_seen : SectorsAreSeen
unfolding last_before
sectors_are_seen S arr distinct d cd =
    let z = beside_dart S arr d cd in
    let sees = sees_vertex S arr d cd in
    (z, sees, seeing_is_off S (tail d) z sees, λ label agrees a here. label_seen S arr distinct d cd z sees (last_before S arr distinct d cd) label agrees a here)
