-- The polygons of parts are exteriors with holes.
use Rattle.std.proofs.Common.{◌≡◌, inl, inr, refl, sym, ap, ◌∙◌, subst, arith, ℕ, zero, suc, ◌<◌, ◌≤◌, Bool, true, false, not, ◌&&◌, cond, List, [], ◌∷◌, map, length, get_or, nat_eq, All, AllPairs, Contains, Some}
use Rattle.std.specs.Prelude.{◌≢◌}
use Rattle.std.specs.List.{sum_by, count_by}
use Rattle.std.proofs.lemmas.Bool.{cases_Bool, and_from, and_parts, eq-eqb, eqb-true, lt-ltb, false_from_ne_true}
use Rattle.std.proofs.lemmas.List.{get_or_default}
use Rattle.std.proofs.lemmas.List.Elements.{All-contains, All-map, Contains-get_or}
use Rattle.std.proofs.lemmas.List.Sums.{sum_by-cons, get_or-le-sum_by}
use Rattle.std.proofs.lemmas.Option.{slice_get-get_or}
use Rattle.plane_snapping.proofs.LinkCount.{sum_map}
use Rattle.lists.specs.Lists.{has}
use Rattle.plane_model.specs.Points.{Segment, Path}
use Rattle.plane_model.specs.Drawing.{steps, steps_of_paths}
use Rattle.plane_model.specs.Arcs.{SignedArc, forward, backward, points_of}
use Rattle.plane_model.specs.Arrangement.{IsArrangement, IsDistinct}
use Rattle.plane_model.specs.Rings.{UsesOnce}
use Rattle.plane_model.specs.Rotation.{Dart}
use Rattle.plane_faces.specs.Around.{opposite}
use Rattle.plane_faces.specs.Labels.{IsFaceLabelling, among, in_part}
use Rattle.plane_faces.specs.Places.{Place, outside, left_of, left_side, right_side, IsBeside, border_darts}
use Rattle.plane_faces.specs.Rings.{IsPolygon, IsRing, dart_of_step, darts_of_paths}
use Rattle.plane_faces.specs.UsedOnce.{border_steps}
use Rattle.plane_faces.proofs.Runs.{ring_closed}
use Rattle.plane_faces.proofs.UsedOnce.{parts_used_once_are_polygons, once_by_steps}
use Rattle.arc_table.specs.Along.{GoAlong}
use Rattle.arc_table.specs.Around.{start_of}
use Rattle.face_walk.specs.Places.{FaceTable, IsBuiltOf, face_left_of}
use Rattle.face_laws.specs.Faces.{AreFreeInside, IsFaceOfPlace}
use Rattle.face_laws.proofs.ClassLemmas.{faces_are_classes}
use Rattle.face_laws.proofs.DartLemmas.{one_of_two, twice_opposite}
use Rattle.face_laws.proofs.StepLemmas.{step_of_link}
use Rattle.face_sets.specs.Boundary.{IsOnBoundary, face_right_of}
use Rattle.ring_trace.specs.Pairing.{stop_of}
use Rattle.face_sets.specs.Sets.{IsInnerFace}
use Rattle.ring_trace.specs.Traced.{is_of_boundary, once_if, same_arc, times, times_round}
use Rattle.ring_trace.specs.Turns.{round_of}
use Rattle.ring_trace.specs.Ways.{IsSimpleRing}
use Rattle.face_sets.proofs.BoundaryLemmas.{has_Contains, Contains_has, same_or_other}
use Rattle.ring_trace.proofs.PartSides.{of_test}
use Rattle.ring_trace.proofs.Sums.{sum_by_same, sum_by_none}
use Rattle.part_laws.specs.Parts.{PolygonsHaveExteriors, number_of}
use Rattle.face_laws.proofs.LabelLemmas.{same_dart}
use Rattle.part_laws.proofs.ArcCounts.{arc_back_count, arc_count, border_count, border_none, decided, none_on_arc, ring_count}
use Rattle.part_laws.proofs.ClassLemmas.{are_classes, numbered}
use Rattle.part_laws.proofs.CountLemmas.{dart_count, permuted, sum_over_flat, tick}
use Rattle.part_laws.proofs.LinkLemmas.{left_at, link_of_arc, right_at}
use Rattle.part_laws.proofs.RingLemmas.{rings_go_round}

-- ---- arcs of a ring

pub at_least_one : (a : SignedArc) (xs : List SignedArc) → Contains xs a → 1 ≤ times a xs
at_least_one a xs (k, l, is) =
    let r = get_or-le-sum_by (λ (y : SignedArc). cond (same_arc a y) 1 0) xs k a l in
    let e : cond (same_arc a (get_or xs k a)) 1 0 ≡ tick true = ap tick (ap (same_arc a) is ∙ eq-eqb _ _ refl) in
    omega arith

at_least_two : (a : SignedArc) (xs : List SignedArc) (i j : ℕ) (d : SignedArc) → i < j → j < length xs → get_or xs i d ≡ a → get_or xs j d ≡ a → 2 ≤ times a xs
at_least_two a [] i j d less l e f = absurd (omega arith)
at_least_two a (x ∷ xs) zero zero d less l e f = absurd (omega arith)
at_least_two a (x ∷ xs) zero (suc j) d less l e f =
    let m = sum_by-cons (λ (y : SignedArc). cond (same_arc a y) 1 0) x xs in
    let g : tick (same_arc a x) ≡ tick true = ap tick (ap (same_arc a) e ∙ eq-eqb _ _ refl) in
    let r = at_least_one a xs (j, omega arith, get_or_default xs j a d (omega arith) ∙ f) in
    omega arith
at_least_two a (x ∷ xs) (suc i) zero d less l e f = absurd (omega arith)
at_least_two a (x ∷ xs) (suc i) (suc j) d less l e f =
    let m = sum_by-cons (λ (y : SignedArc). cond (same_arc a y) 1 0) x xs in
    let r = at_least_two a xs i j d (omega arith) (omega arith) e f in
    omega arith

pub once_most : (b : Bool) → once_if b ≤ 1
once_most true = omega arith
once_most false = omega arith

pub used_true : (b : Bool) → 1 ≤ once_if b → b ≡ true
used_true true l = refl
used_true false l = absurd (omega arith)

module _ (S : List Segment) (arr : IsArrangement S) (distinct : IsDistinct S) (arcs : List Path) (long : All (λ arc. 1 < length arc) arcs) (along : GoAlong S arcs) (free : AreFreeInside S arcs) (faces : FaceTable) (built : IsBuiltOf arcs faces)
    (label : Place → ℕ) (by : IsFaceOfPlace arcs faces label) (part : List ℕ) (polygon : List (List SignedArc)) (below : All (All (λ a. a.arc < length arcs)) polygon) (some : All (λ ring. 0 < length ring) polygon)
    (simple : All (IsSimpleRing (start_of arcs) (stop_of arcs)) polygon) (used : (a : SignedArc) → times_round a polygon ≡ once_if (is_of_boundary faces.places (length arcs) part a)) where
  abbrev inside : Place → Bool
  inside a = has nat_eq part (label a)

  -- no two signed arcs of a ring are of one arc
  ring_once : (ring : List SignedArc) → Contains polygon ring → AllPairs (λ a b. a.arc ≢ b.arc) ring
  ring_once ring (k, l, is) i j d less lj same =
      let a = get_or ring i d in
      let b = get_or ring j d in
      let in_all : (c : SignedArc) → times c ring ≤ once_if (is_of_boundary faces.places (length arcs) part c) = (λ c.
      let r = get_or-le-sum_by (times c) polygon k ring l in
      let e : times c (get_or polygon k ring) ≡ times c ring = ap (times c) is in
      let u = used c in
      omega arith) in
      let one = at_least_one a ring (i, omega arith, get_or_default ring i a d (omega arith)) in
      let two = at_least_one b ring (j, lj, get_or_default ring j b d lj) in
      let on_a : IsOnBoundary faces part a = of_test faces (length arcs) part a built.places_counted (used_true (is_of_boundary faces.places (length arcs) part a) (let r = in_all a in omega arith)) in
      let on_b : IsOnBoundary faces part b = of_test faces (length arcs) part b built.places_counted (used_true (is_of_boundary faces.places (length arcs) part b) (let r = in_all b in omega arith)) in
      elim (same_or_other a b same) [
        | inl e ↦
            (let r = at_least_two a ring i j d less lj refl (sym e) in
            let m = in_all a in
            let o = once_most (is_of_boundary faces.places (length arcs) part a) in
            absurd (omega arith))
        | inr e ↦ on_b.right (subst (λ (c : SignedArc). Contains part (face_left_of faces.places c)) e on_a.left)
      ]

  pub are_rings : All IsRing (map (round_of arcs) polygon)
  are_rings = All-map IsRing (round_of arcs) polygon (λ k d l.
      rings_go_round S arr arcs long along free (get_or polygon k d) (some k d l) (below k d l) (simple k d l) (ring_once (get_or polygon k d) (Contains-get_or polygon k d l)))

  -- ---- how often a dart is along the rings

  polygon_count : (d : Dart) (g : SignedArc → ℕ) → ((x : SignedArc) → x.arc < length arcs → dart_count d (points_of arcs x) ≡ g x) → count_by (same_dart d) (darts_of_paths (map (round_of arcs) polygon)) ≡ sum_by (λ (ring : List SignedArc). sum_by g ring) polygon
  polygon_count d g counts =
      let f : Segment → ℕ = λ s. tick (same_dart d (dart_of_step s)) in
      sum_map dart_of_step (λ (e : Dart). cond (same_dart d e) 1 0) (steps_of_paths (map (round_of arcs) polygon))
      ∙ sum_over_flat f steps (map (round_of arcs) polygon)
      ∙ sum_map (round_of arcs) (λ (p : Path). sum_by f (steps p)) polygon
      ∙ sum_by_same (λ (ring : List SignedArc). sum_by f (steps (round_of arcs ring))) (λ (ring : List SignedArc). sum_by g ring) polygon (λ ring c.
      ring_count S arr arcs long along d g counts ring (All-contains (λ r. 0 < length r) polygon ring some c) (All-contains (All (λ a. a.arc < length arcs)) polygon ring below c)
      (All-contains (IsSimpleRing (start_of arcs) (stop_of arcs)) polygon ring simple c))

  by_arc : (d : Dart) (c : SignedArc) → ((x : SignedArc) → x.arc < length arcs → dart_count d (points_of arcs x) ≡ tick (same_arc c x)) → count_by (same_dart d) (darts_of_paths (map (round_of arcs) polygon)) ≡ once_if (is_of_boundary faces.places (length arcs) part c)
  by_arc d c counts = polygon_count d (λ (x : SignedArc). tick (same_arc c x)) counts ∙ used c

  -- the test of a signed arc is that of the sides of its dart
  tested : (c : SignedArc) (x y : Bool) → c.arc < length arcs → x ≡ has nat_eq part (face_left_of faces.places c) → y ≡ has nat_eq part (face_right_of faces.places c) → is_of_boundary faces.places (length arcs) part c ≡ (x && not y)
  tested c x y l e f = (λ i. lt-ltb c.arc (length arcs) l i && (sym e i && not (sym f i)))

  pub same_counts : (d : Dart) → count_by (same_dart d) (darts_of_paths (map (round_of arcs) polygon)) ≡ count_by (same_dart d) (border_darts inside S)
  same_counts d = elim (decided d.link S) [
    | inr out ↦
        polygon_count d (λ (x : SignedArc). let z : ℕ = 0 in z) (λ x l. none_on_arc S arr arcs long along d out x l)
        ∙ sum_by_none (λ (ring : List SignedArc). sum_by (λ (x : SignedArc). let z : ℕ = 0 in z) ring) polygon (λ ring c. sum_by_none (λ (x : SignedArc). let z : ℕ = 0 in z) ring (λ x e. refl))
        ∙ sym (border_none S inside d out)
    | inl there ↦
        (let (n, j, s, h, e) = step_of_link arcs S arr long along d.link there in
        elim (one_of_two s d (sym e)) [
          | inl f ↦
              (let counts : (x : SignedArc) → x.arc < length arcs → dart_count d (points_of arcs x) ≡ tick (same_arc (forward n) x) =
              (λ x l. ap (λ (k : Dart). dart_count k (points_of arcs x)) f ∙ arc_count S arr arcs long along n j s h x l) in
              by_arc d (forward n) counts
              ∙ ap once_if (tested (forward n) (inside (left_of d)) (inside (left_of (opposite d))) h.arc
              (ap (λ (k : Dart). inside (left_of k)) f ∙ ap (has nat_eq part) (left_at S arr arcs long along faces label by n j s h))
              (ap (λ (k : Dart). inside (left_of (opposite k))) f ∙ ap (has nat_eq part) (right_at S arr arcs long along faces label by n j s h)))
              ∙ sym (border_count S inside d distinct there ∙ ap tick (sides d.link d.forward)))
          | inr f ↦
              (let counts : (x : SignedArc) → x.arc < length arcs → dart_count d (points_of arcs x) ≡ tick (same_arc (backward n) x) =
              (λ x l. ap (λ (k : Dart). dart_count k (points_of arcs x)) f ∙ arc_back_count S arr arcs long along n j s h x l) in
              by_arc d (backward n) counts
              ∙ ap once_if (tested (backward n) (inside (left_of d)) (inside (left_of (opposite d))) h.arc
              (ap (λ (k : Dart). inside (left_of k)) f ∙ ap (has nat_eq part) (right_at S arr arcs long along faces label by n j s h))
              (ap (λ (k : Dart). inside (left_of (opposite k))) f ∙ ap (λ (k : Dart). inside (left_of k)) (twice_opposite (dart_of_step s)) ∙ ap (has nat_eq part) (left_at S arr arcs long along faces label by n j s h)))
              ∙ sym (border_count S inside d distinct there ∙ ap tick (sides d.link d.forward)))
        ])
  ]
    where
      sides : (l : Segment) (b : Bool) → cond b (inside (left_side l) && not (inside (right_side l))) (inside (right_side l) && not (inside (left_side l))) ≡ (inside (left_of (record { link = l; forward = b })) && not (inside (left_of (record { link = l; forward = not b }))))
      sides l true = refl
      sides l false = refl

  pub uses : UsesOnce (border_steps inside S) (map (round_of arcs) polygon)
  uses = record {
    closed = λ k d l. ring_closed (get_or (map (round_of arcs) polygon) k d) (are_rings k d l);
    steps_once = once_by_steps inside S (map (round_of arcs) polygon) (permuted (darts_of_paths (map (round_of arcs) polygon)) (border_darts inside S) same_counts);
  }

-- ---- the polygons

pub polygons_have_exteriors : PolygonsHaveExteriors
polygons_have_exteriors S arr distinct arcs long along free faces built label by set inner parts are n l polygon below some simple used a on =
    let part = get_or parts n [] in
    let F : ℕ → Bool = has nat_eq set in
    let numbers = number_of parts in
    let labels : IsFaceLabelling S label = faces_are_classes S arr arcs long along free faces built label by in
    let classes = are_classes S arr arcs long along faces built label by set parts are in
    let out : F (label outside) ≡ false = false_from_ne_true (F (label outside)) (λ e.
    let c : Contains set (label outside) = has_Contains set (label outside) e in
    let h : IsInnerFace faces (label outside) = All-contains (IsInnerFace faces) set (label outside) inner c in
    h.not_outer (slice_get-get_or faces.places 0 0 (let m = built.places_counted in omega arith) ∙ ap (λ (k : ℕ). Some k) (sym by.outside_all))) in
    let same : (k : ℕ) → has nat_eq part k ≡ in_part F numbers n k = (λ k. one_test k) in
    let tests : (λ (p : Place). has nat_eq part (label p)) ≡ among label (in_part F numbers n) = (λ i p. same (label p) i) in
    let rings = map (round_of arcs) polygon in
    let once : UsesOnce (border_steps (among label (in_part F numbers n)) S) rings =
    subst (λ (f : Place → Bool). UsesOnce (border_steps f S) rings) tests (uses S arr distinct arcs long along free faces built label by part polygon below some simple used) in
    let (b, beside, b_in) = place_there in
    subst (λ (f : Place → Bool). IsPolygon S f rings) (sym tests)
    (parts_used_once_are_polygons S arr distinct label labels F out numbers classes n rings once (are_rings S arr distinct arcs long along free faces built label by part polygon below some simple used) b beside
    (sym (same (label b)) ∙ b_in))
  where
    of_set : (k : ℕ) → Contains (get_or parts n []) k → Contains set k
    of_set k c = All-contains (Contains set) (get_or parts n []) k (are.divided.faces n [] l).faces c

    one_test : (k : ℕ) → has nat_eq (get_or parts n []) k ≡ in_part (has nat_eq set) (number_of parts) n k
    one_test k = elim (cases_Bool (has nat_eq (get_or parts n []) k)) [
      | inl e ↦
          (let c = has_Contains (get_or parts n []) k e in
          let inside = of_set k c in
          let (m, there) = numbered S arr arcs long along faces built label by set parts are k inside in
          let is : number_of parts k ≡ n = are.divided.once (number_of parts k) n k m l there c in
          e ∙ sym (and_from (has nat_eq set k) (nat_eq (number_of parts k) n) (Contains_has set k inside) (eq-eqb (number_of parts k) n is)))
      | inr e ↦ e ∙ sym (false_from_ne_true (in_part (has nat_eq set) (number_of parts) n k) (λ f.
          let (in_set, number) = and_parts (has nat_eq set k) (nat_eq (number_of parts k) n) f in
          let (m, there) = numbered S arr arcs long along faces built label by set parts are k (has_Contains set k in_set) in
          let c : Contains (get_or parts n []) k = subst (λ (i : ℕ). Contains (get_or parts i []) k) (eqb-true (number_of parts k) n number) there in
          let g : true ≡ false = sym (Contains_has (get_or parts n []) k c) ∙ e in absurd (cc)))
    ]

    place_there : (b : Place) × IsBeside S b × (has nat_eq (get_or parts n []) (label b) ≡ true)
    place_there =
        let below : a.arc < length arcs = (let e = built.places_counted in let m = on.arc in omega arith) in
        let (link, there, c, same, goes) = link_of_arc S arr arcs long along faces label by a.arc below in
        let left = Contains_has (get_or parts n []) (face_left_of faces.places a) on.left in
        elim (same_or_other a c (sym same)) [
          | inl e ↦ (left_side link, there, ap (has nat_eq (get_or parts n [])) (goes.left ∙ sym (ap (face_left_of faces.places) e)) ∙ left)
          | inr e ↦ (right_side link, there, ap (has nat_eq (get_or parts n [])) (goes.right ∙ sym (ap (face_left_of faces.places) e)) ∙ left)
        ]
