-- Parts of a set of faces that a region follows are the parts of the region, in order.
use Rattle.std.proofs.Common.{◌≡◌, ◌⊎◌, inl, inr, refl, sym, ap, subst, ◌∙◌, arith, ℕ, ◌+◌, ◌<◌, ◌≤◌, Bool, ◌&&◌, List, [], All, Contains, length, get_or, map, nat_eq, nat_lt, pos}
use Rattle.std.specs.Prelude.{◌↔◌}
use Rattle.std.specs.List.{range_with_len}
use Rattle.std.specs.List.Sorted.{IsStrictlyIncreasing}
use Rattle.std.proofs.lemmas.Bool.{cases_lt}
use Rattle.std.proofs.lemmas.List.{get_or_past}
use Rattle.std.proofs.lemmas.List.Elements.{All-contains}
use Rattle.std.proofs.lemmas.List.FromFn.{get_or-map-range_with_len, length-map-range_with_len}
use Rattle.lists.specs.Lists.{has}
use Rattle.lists.proofs.Ascending.{one_ascending}
use Rattle.lists.proofs.Members.{Contains-filter, Contains-map, Contains-nil, map-Contains}
use Rattle.plane_model.specs.Points.{RationalPoint, Segment, Path, link_between}
use Rattle.plane_model.specs.Drawing.{steps}
use Rattle.plane_model.specs.Arcs.{SignedArc, forward, backward}
use Rattle.plane_model.specs.Arrangement.{IsArrangement, IsDistinct}
use Rattle.plane_model.specs.Joined.{AreJoinedIn, IsArcOfPart, IsBoundaryLink, IsPartNumber, links_of_arc}
use Rattle.plane_model.specs.Rotation.{Dart}
use Rattle.plane_model.specs.Sees.{IsOffLinks, SeesLeft, SeesRight}
use Rattle.plane_model.specs.Sides.{Points}
use Rattle.plane_parity.proofs.Visible.{seen_from_left, seen_from_right}
use Rattle.plane_faces.specs.Around.{forward_dart, opposite}
use Rattle.plane_faces.specs.Labels.{IsFaceLabelling}
use Rattle.plane_faces.specs.Places.{Place, left_of, IsPlaceOf, left_side, right_side}
use Rattle.plane_faces.specs.Rings.{dart_of_step}
use Rattle.plane_faces.proofs.Order.{place_exists}
use Rattle.arc_table.specs.Along.{GoAlong}
use Rattle.arc_table.proofs.SignedArcs.{Contains-signed_below}
use Rattle.face_walk.specs.Places.{FaceTable, IsBuiltOf, face_left_of, signed_below}
use Rattle.face_sets.proofs.GapLemmas.{in_range, of_range}
use Rattle.face_laws.specs.Faces.{AreFreeInside, IsFaceOfPlace}
use Rattle.face_laws.proofs.DartLemmas.{one_of_two, twice_opposite}
use Rattle.face_laws.proofs.StepLemmas.{IsStep, arc_of, step_at, step_on, steps_counted}
use Rattle.face_sets.specs.Boundary.{IsLeastArc, IsOnBoundary, boundary, face_right_of, is_outward, other_way}
use Rattle.face_sets.specs.Joined.{AreParts}
use Rattle.face_sets.specs.Sets.{IsSetOf}
use Rattle.face_sets.proofs.BoundaryLemmas.{Contains_has, back_again, outward_if, same_or_other}
use Rattle.face_sets.proofs.JoinedLemmas.{joined_over}
use Rattle.face_sets.proofs.SetLemmas.{nat_order, to_ascending}
use Rattle.part_laws.specs.Parts.{number_of}
use Rattle.part_laws.proofs.BoundedLaws.{each_has_arc, outside_is_not}
use Rattle.part_laws.proofs.ClassLemmas.{are_classes, numbered}
use Rattle.part_laws.proofs.LinkLemmas.{GoesAlong, left_at, right_at}
use Rattle.part_laws.proofs.TracedLaws.{on_boundary}
use Rattle.region_model.specs.Region.{IsInPart, IsLeastOfSome}
use Rattle.region_laws.proofs.Least.{lowest, lowest_least, lowest_there}
use Rattle.region_laws.proofs.OffLinks.{off_from_side}
use Rattle.region_laws.proofs.Sides.{joined_by_parts, left_belongs, right_belongs, seen_left, seen_right}

module _ (S : List Segment) (arr : IsArrangement S) (distinct : IsDistinct S) (arcs : List Path) (long : All (λ arc. 1 < length arc) arcs) (along : GoAlong S arcs) (free : AreFreeInside S arcs) (faces : FaceTable) (built : IsBuiltOf arcs faces)
    (label : Place → ℕ) (by : IsFaceOfPlace arcs faces label) (labelling : IsFaceLabelling S label)
    (set : List ℕ) (inner : IsSetOf faces set) (parts : List (List ℕ)) (are : AreParts faces set parts)
    (R : Points) (follows : (z : RationalPoint) → IsOffLinks S z → (a : Place) → IsPlaceOf S z a → R z ↔ Contains set (label a)) where
  abbrev part : ℕ → List ℕ
  part k = get_or parts k []

  -- ---- links of arcs

  -- along a link of arc n goes the arc, one way or the other
  goes_along : (n j : ℕ) (s : Segment) → IsStep arcs n j s → (b : SignedArc) × (b.arc ≡ n) × GoesAlong S arr arcs long along faces label by b (link_between s)
  goes_along n j s h = elim (one_of_two s (forward_dart (link_between s)) refl) [
    | inl f ↦ (
      forward n,
      refl,
      record {
        arc = h.arc;
        left = ap (λ (d : Dart). label (left_of d)) f ∙ left_at S arr arcs long along faces label by n j s h;
        right = ap (λ (d : Dart). label (left_of (opposite d))) f ∙ right_at S arr arcs long along faces label by n j s h;
      },
    )
    | inr f ↦ (
      backward n,
      refl,
      record {
        arc = h.arc;
        left = ap (λ (d : Dart). label (left_of d)) f ∙ right_at S arr arcs long along faces label by n j s h;
        right = ap (λ (d : Dart). label (left_of (opposite d))) f ∙ ap (λ (d : Dart). label (left_of d)) (twice_opposite (dart_of_step s)) ∙ left_at S arr arcs long along faces label by n j s h;
      },
    )
  ]

  -- a link of arc n is that of a step
  pub step_of : (n : ℕ) (l : Segment) → Contains (links_of_arc arcs n) l → (j : ℕ) × (s : Segment) × IsStep arcs n j s × (link_between s ≡ l)
  step_of n l c = elim (cases_lt n (length arcs)) [
    | inl below ↦ (let (s, (j, there, is), same) = map-Contains link_between (steps (arc_of arcs n)) l c in (j, s, record { arc = below; there = there; is = is }, same))
    | inr past ↦ Contains-nil l (subst (λ (path : Path). Contains (map link_between (steps path)) l) (get_or_past arcs n [] past) c)
  ]

  -- ---- faces of parts

  of_set : (k f : ℕ) → k < length parts → Contains (part k) f → Contains set f
  of_set k f l c = All-contains (Contains set) (part k) f (are.divided.faces k [] l).faces c

  number_is : (k f : ℕ) → k < length parts → Contains (part k) f → number_of parts f ≡ k
  number_is k f l c =
      let (below, there) = numbered S arr arcs long along faces built label by set parts are f (of_set k f l c) in
      are.divided.once (number_of parts f) k f below l there c

  joined_points : (u v : RationalPoint) (a b : Place) → IsPlaceOf S u a → IsPlaceOf S v b → Contains set (label a) → Contains set (label b) → (number_of parts (label a) ≡ number_of parts (label b)) ↔ AreJoinedIn S R u v
  joined_points =
      joined_by_parts S arr distinct label labelling set R follows (outside_is_not S arr distinct arcs long along free faces built label by set inner) (number_of parts)
      (are_classes S arr arcs long along faces built label by set parts are)

  -- an arc of the boundary of a part is one of the set
  of_whole : (k : ℕ) (b : SignedArc) → k < length parts → IsOnBoundary faces (part k) b → Contains set (face_right_of faces.places b) → ⊥
  of_whole k b l on c =
      let (j, m, d) = are.divided.each (face_right_of faces.places b) c in
      let same : k ≡ j = (are.joined k j (face_left_of faces.places b) (face_right_of faces.places b) l m on.left d).1
      (joined_over faces set (face_left_of faces.places b) b (record { arc = on.arc; from = refl; into = c })) in
      on.right (subst (λ (i : ℕ). Contains (part i) (face_right_of faces.places b)) (sym same) d)

  -- ---- arcs in the boundary of a part

  -- a link of the region's boundary that a point of part k sees
  record IsOfPart (k n : ℕ) (w : RationalPoint) (l : Segment) : Type 0 where
    there : Contains (links_of_arc arcs n) l
    on_boundary : IsBoundaryLink S R l
    in_region : R w
    sees : SeesLeft S l w ⊎ SeesRight S l w
    place : Place
    at_place : IsPlaceOf S w place
    in_part : Contains (part k) (label place)

  -- such a link gives a signed arc of the boundary
  arc_from_link : (k n : ℕ) (w : RationalPoint) (l : Segment) → k < length parts → IsOfPart k n w l → (b : SignedArc) × IsOnBoundary faces (part k) b × (b.arc ≡ n)
  arc_from_link k n w l below h =
      let (j, s, step, is) = step_of n l h.there in
      let on : Contains S l = subst (Contains S) is (step_on arcs S arr long along n j s step) in
      let (b, same, goes₀) = goes_along n j s step in
      let goes : GoesAlong S arr arcs long along faces label by b l = subst (λ (m : Segment). GoesAlong S arr arcs long along faces label by b m) is goes₀ in
      let size = built.places_counted in
      let arc_there = goes.arc in
      elim h.sees [
        | inl sees ↦ (
            let e = seen_left S arr distinct label labelling l on w sees h.place h.at_place in
            let left : Contains (part k) (label (left_side l)) = subst (Contains (part k)) e h.in_part in
            let apart : Contains set (label (right_side l)) → ⊥ = (λ c. elim h.on_boundary [
              | inl o ↦ o.1 ((right_belongs S arr distinct label labelling set R follows l on).1 c)
              | inr o ↦ o.1 ((left_belongs S arr distinct label labelling set R follows l on).1 (of_set k (label (left_side l)) below left))
            ]) in (
              b,
              record { arc = omega arith; left = subst (Contains (part k)) goes.left left; right = λ c. apart (of_set k (label (right_side l)) below (subst (Contains (part k)) (sym goes.right) c)) },
              same,
            ))
        | inr sees ↦ (
            let e = seen_right S arr distinct label labelling l on w sees h.place h.at_place in
            let right : Contains (part k) (label (right_side l)) = subst (Contains (part k)) e h.in_part in
            let apart : Contains set (label (left_side l)) → ⊥ = (λ c. elim h.on_boundary [
              | inl o ↦ o.1 ((right_belongs S arr distinct label labelling set R follows l on).1 (of_set k (label (right_side l)) below right))
              | inr o ↦ o.1 ((left_belongs S arr distinct label labelling set R follows l on).1 c)
            ]) in
            let back : face_right_of faces.places (other_way b) ≡ label (left_side l) = ap (face_left_of faces.places) (back_again b) ∙ sym goes.left in (
              other_way b,
              record { arc = omega arith; left = subst (Contains (part k)) goes.right right; right = λ c. apart (of_set k (label (left_side l)) below (subst (Contains (part k)) back c)) },
              same,
            ))
      ]

  -- and each signed arc of the boundary such a link
  link_from_arc : (k : ℕ) (b : SignedArc) → k < length parts → IsOnBoundary faces (part k) b → (w : RationalPoint) × (l : Segment) × IsOfPart k b.arc w l
  link_from_arc k b below on =
      let n : ℕ = b.arc in
      let size = built.places_counted in
      let arc_there = on.arc in
      let n_below : n < length arcs = omega arith in
      let longer : 1 < length (arc_of arcs n) = long n [] n_below in
      let many = steps_counted (arc_of arcs n) (omega arith) in
      let none : Segment = record { start = record { x = pos 0; y = pos 0 }; stop = record { x = pos 0; y = pos 0 } } in
      let s : Segment = get_or (steps (arc_of arcs n)) 0 none in
      let step = step_at arcs n 0 none n_below (omega arith) in
      let l : Segment = link_between s in
      let on_l : Contains S l = step_on arcs S arr long along n 0 s step in
      let there : Contains (links_of_arc arcs n) l = Contains-map link_between (steps (arc_of arcs n)) s (0, step.there, step.is) in
      let (c, same, goes) = goes_along n 0 s step in
      elim (same_or_other b c (sym same)) [
        | inl e ↦ (
            let (w, sees) = seen_from_left S arr l on_l in
            let (a, here) = place_exists S arr w in
            let is_left : label a ≡ face_left_of faces.places b = seen_left S arr distinct label labelling l on_l w sees a here ∙ goes.left ∙ sym (ap (face_left_of faces.places) e) in
            let is_right : label (right_side l) ≡ face_right_of faces.places b = goes.right ∙ sym (ap (face_right_of faces.places) e) in
            let in_part : Contains (part k) (label a) = subst (Contains (part k)) (sym is_left) on.left in
            let in_region : R w = (follows w (off_from_side S l w (inl sees)) a here).1 (of_set k (label a) below in_part) in (
              w,
              l,
              record {
                there = there;
                on_boundary = inl ((w, sees, in_region), λ r. of_whole k b below on (subst (Contains set) is_right ((right_belongs S arr distinct label labelling set R follows l on_l).0 r)));
                in_region = in_region;
                sees = inl sees;
                place = a;
                at_place = here;
                in_part = in_part;
              },
            ))
        | inr e ↦ (
            let (w, sees) = seen_from_right S arr l on_l in
            let (a, here) = place_exists S arr w in
            let is_right : label a ≡ face_left_of faces.places b = seen_right S arr distinct label labelling l on_l w sees a here ∙ goes.right ∙ sym (ap (face_left_of faces.places) e) in
            let is_left : label (left_side l) ≡ face_right_of faces.places b = goes.left ∙ sym (ap (face_right_of faces.places) e ∙ ap (face_left_of faces.places) (back_again c)) in
            let in_part : Contains (part k) (label a) = subst (Contains (part k)) (sym is_right) on.left in
            let in_region : R w = (follows w (off_from_side S l w (inr sees)) a here).1 (of_set k (label a) below in_part) in (
              w,
              l,
              record {
                there = there;
                on_boundary = inr ((w, sees, in_region), λ r. of_whole k b below on (subst (Contains set) is_left ((left_belongs S arr distinct label labelling set R follows l on_l).0 r)));
                in_region = in_region;
                sees = inr sees;
                place = a;
                at_place = here;
                in_part = in_part;
              },
            ))
      ]

  -- ---- numbers of parts

  module _ (z : RationalPoint) (off : IsOffLinks S z) (a : Place) (here : IsPlaceOf S z a) (k : ℕ) (below : k < length parts) (in_part : Contains (part k) (label a)) where
    arc_of_part : (n : ℕ) → IsArcOfPart S arcs R z n ↔ ((b : SignedArc) × IsOnBoundary faces (part k) b × (b.arc ≡ n))
    arc_of_part n = (to, from)
      where
        to : IsArcOfPart S arcs R z n → (b : SignedArc) × IsOnBoundary faces (part k) b × (b.arc ≡ n)
        to (l, there, (on_boundary, (w, (in_region, joined), sees))) =
            let (c, at_w) = place_exists S arr w in
            let in_set : Contains set (label c) = (follows w (off_from_side S l w sees) c at_w).0 in_region in
            let same : number_of parts (label a) ≡ number_of parts (label c) = (joined_points z w a c here at_w (of_set k (label a) below in_part) in_set).1 joined in
            let (m, held) = numbered S arr arcs long along faces built label by set parts are (label c) in_set in
            arc_from_link k n w l below (record {
              there = there;
              on_boundary = on_boundary;
              in_region = in_region;
              sees = sees;
              place = c;
              at_place = at_w;
              in_part = subst (λ (i : ℕ). Contains (part i) (label c)) (sym same ∙ number_is k (label a) below in_part) held;
            })

        from : (b : SignedArc) × IsOnBoundary faces (part k) b × (b.arc ≡ n) → IsArcOfPart S arcs R z n
        from (b, on, is) =
            let (w, l, h) = link_from_arc k b below on in
            let same : number_of parts (label a) ≡ number_of parts (label h.place) = number_is k (label a) below in_part ∙ sym (number_is k (label h.place) below h.in_part) in (
              l,
              subst (λ (m : ℕ). Contains (links_of_arc arcs m) l) is h.there,
              (
                h.on_boundary,
                (w, (h.in_region, (joined_points z w a h.place here h.at_place (of_set k (label a) below in_part) (of_set k (label h.place) below h.in_part)).0 same), h.sees),
              ),
            )

    number_from : (n : ℕ) → IsPartNumber S arcs R z n → IsLeastArc faces (part k) n
    number_from n h = record { used = (arc_of_part n).0 h.is_arc; least = λ b on. h.least b.arc ((arc_of_part b.arc).1 (b, on, refl)) }

    from_number : (n : ℕ) → IsLeastArc faces (part k) n → IsPartNumber S arcs R z n
    from_number n h = record { is_arc = (arc_of_part n).1 h.used; least = λ m on. let (b, there, is) = (arc_of_part m).0 on in subst (λ (i : ℕ). n ≤ i) is (h.least b there) }

  -- the least numbers of parts of the region are the least arcs of the parts of the set
  some_least : (n : ℕ) → IsLeastOfSome S arcs R n ↔ ((k : ℕ) × (k < length parts) × IsLeastArc faces (part k) n)
  some_least n = (
    λ (w, off, in_region, number).
        (let (a, here) = place_exists S arr w in
        let (below, there) = numbered S arr arcs long along faces built label by set parts are (label a) ((follows w off a here).0 in_region) in
        (number_of parts (label a), below, number_from w off a here (number_of parts (label a)) below there n number)),
    λ (k, below, least).
        (let (b, on, is) = least.used in
        let (w, l, h) = link_from_arc k b below on in
        let off = off_from_side S l w h.sees in
        (w, off, h.in_region, from_number w off h.place h.at_place k below h.in_part n least)),
  )

  -- ---- the least arc of each part

  abbrev numbers_on : ℕ → List ℕ
  numbers_on k = map (λ (b : SignedArc). b.arc) (boundary faces.places (length arcs) (part k))

  abbrev least_on : ℕ → ℕ
  least_on k = lowest (numbers_on k)

  on_numbers : (k n : ℕ) → Contains (numbers_on k) n ↔ ((b : SignedArc) × IsOnBoundary faces (part k) b × (b.arc ≡ n))
  on_numbers k n = (
    λ c. (let (b, there, is) = map-Contains (λ (b : SignedArc). b.arc) (boundary faces.places (length arcs) (part k)) n c in (b, on_boundary faces (length arcs) built.places_counted (part k) b there, is)),
    λ (b, on, is).
        (let size = built.places_counted in
        let there = on.arc in
        let test : SignedArc → Bool = (λ c. has nat_eq (part k) (face_left_of faces.places c) && is_outward faces.places (part k) c) in
        let left = Contains_has (part k) (face_left_of faces.places b) on.left in
        let out = outward_if faces.places (part k) b on.right in
        subst (Contains (numbers_on k)) is (Contains-map (λ (c : SignedArc). c.arc) (boundary faces.places (length arcs) (part k)) b
        (Contains-filter test (signed_below (length arcs)) b (Contains-signed_below (length arcs) b (omega arith)) (λ i. left i && out i)))),
  )

  least_is : (k : ℕ) → k < length parts → IsLeastArc faces (part k) (least_on k)
  least_is k below =
      let (b, on) = each_has_arc S arr distinct arcs long along free faces built label by set inner parts are k [] below in
      let (i, some, is) = (on_numbers k b.arc).1 (b, on, refl) in
      record {
        used = (on_numbers k (least_on k)).0 (lowest_there (numbers_on k) (omega arith));
        least = λ c on_c. lowest_least (numbers_on k) c.arc ((on_numbers k c.arc).1 (c, on_c, refl));
      }

  one_least : (k m n : ℕ) → IsLeastArc faces (part k) m → IsLeastArc faces (part k) n → m ≡ n
  one_least k m n g h =
      let (a, on_a, is_m) = g.used in
      let (b, on_b, is_n) = h.used in
      let up = g.least b on_b in
      let down = h.least a on_a in
      omega arith

  -- the least arcs of the parts before one
  abbrev lesser : ℕ → List ℕ
  lesser k = map least_on (range_with_len 0 k)

  lesser_rises : (k : ℕ) → k ≤ length parts → IsStrictlyIncreasing (lesser k)
  lesser_rises k within i l =
      let size = length-map-range_with_len least_on 0 k in
      let here = get_or-map-range_with_len least_on 0 k i i 0 (omega arith) (omega arith) in
      let next = get_or-map-range_with_len least_on 0 k (i + 1) (i + 1) 0 (omega arith) (omega arith) in
      let up = are.in_order i (i + 1) (least_on i) (least_on (i + 1)) (omega arith) (omega arith) (least_is i (omega arith)) (least_is (i + 1) (omega arith)) in
      omega arith

  lesser_are : (k : ℕ) → k < length parts → (n : ℕ) → Contains (lesser k) n ↔ ((n < least_on k) × IsLeastOfSome S arcs R n)
  lesser_are k below n = (to, from)
    where
      to : Contains (lesser k) n → (n < least_on k) × IsLeastOfSome S arcs R n
      to c =
          let (i, in_all, is) = map-Contains least_on (range_with_len 0 k) n c in
          let less = of_range k i in_all in
          let i_below : i < length parts = omega arith in
          let up = are.in_order i k (least_on i) (least_on k) less below (least_is i i_below) (least_is k below) in
          (omega arith, (some_least n).1 (i, i_below, subst (IsLeastArc faces (part i)) is (least_is i i_below)))

      from : (n < least_on k) × IsLeastOfSome S arcs R n → Contains (lesser k) n
      from (less, some) =
          let (i, i_below, least) = (some_least n).0 some in
          elim (cases_lt i k) [
            | inl before ↦ subst (Contains (lesser k)) (one_least i (least_on i) n (least_is i i_below) least) (Contains-map least_on (range_with_len 0 k) i (in_range k i before))
            | inr not_before ↦ elim (cases_lt k i) [
              | inl after ↦ absurd (let up = are.in_order k i (least_on k) n after i_below (least_is k below) least in omega arith)
              | inr not_after ↦ (
                  let same : i ≡ k = omega arith in
                  let e : n ≡ least_on k = one_least k n (least_on k) (subst (λ (j : ℕ). IsLeastArc faces (part j) n) same least) (least_is k below) in
                  absurd (omega arith))
            ]
          ]

  -- ---- points in parts

  module _ (z : RationalPoint) (off : IsOffLinks S z) (a : Place) (here : IsPlaceOf S z a) (k : ℕ) (below : k < length parts) (in_part : Contains (part k) (label a)) where
    is_in_part : IsInPart S arcs R z k
    is_in_part = record {
      number = least_on k;
      is_number = from_number z off a here k below in_part (least_on k) (least_is k below);
      lesser = lesser k;
      rising = lesser_rises k (omega arith);
      are = lesser_are k below;
      count = length-map-range_with_len least_on 0 k;
    }

    pub in_no_other : (j : ℕ) → IsInPart S arcs R z j → j ≡ k
    in_no_other j h =
        let e : h.number ≡ least_on k = one_least k h.number (least_on k) (number_from z off a here k below in_part h.number h.is_number) (least_is k below) in
        let same : h.lesser ≡ lesser k = one_ascending nat_lt nat_order h.lesser (lesser k) (to_ascending h.lesser h.rising) (to_ascending (lesser k) (lesser_rises k (omega arith)))
        (λ n c. (lesser_are k below n).1 (let (less, some) = (h.are n).0 c in (omega arith, some)))
        (λ n c. (h.are n).1 (let (less, some) = (lesser_are k below n).0 c in (omega arith, some))) in
        sym h.count ∙ ap (λ (ns : List ℕ). length ns) same ∙ length-map-range_with_len least_on 0 k

  -- the points of part j of the region are those whose faces are in part j of the set
  pub part_followed : (j : ℕ) → j < length parts → (z : RationalPoint) → IsOffLinks S z → (a : Place) → IsPlaceOf S z a → (R z × IsInPart S arcs R z j) ↔ Contains (get_or parts j []) (label a)
  part_followed j below z off a here = (
    λ (in_r, h).
        (let (within, there) = numbered S arr arcs long along faces built label by set parts are (label a) ((follows z off a here).0 in_r) in
        subst (λ (i : ℕ). Contains (part i) (label a)) (sym (in_no_other z off a here (number_of parts (label a)) within there j h)) there),
    λ c. ((follows z off a here).1 (of_set j (label a) below c), is_in_part z off a here j below c),
  )

  -- each point of the region is in a part
  pub some_part : (z : RationalPoint) → IsOffLinks S z → R z → (j : ℕ) × (j < length parts) × (R z × IsInPart S arcs R z j)
  some_part z off in_r =
      let (a, here) = place_exists S arr z in
      let (within, there) = numbered S arr arcs long along faces built label by set parts are (label a) ((follows z off a here).0 in_r) in
      (number_of parts (label a), within, (in_r, is_in_part z off a here (number_of parts (label a)) within there))

  -- and each part has a point
  pub some_point : (j : ℕ) → j < length parts → (z : RationalPoint) × IsOffLinks S z × (R z × IsInPart S arcs R z j)
  some_point j below =
      let (b, on) = each_has_arc S arr distinct arcs long along free faces built label by set inner parts are j [] below in
      let (w, l, h) = link_from_arc j b below on in
      let off = off_from_side S l w h.sees in
      (w, off, (h.in_region, is_in_part w off h.place h.at_place j below h.in_part))

-- a point is in one part
pub one_number : (S : List Segment) (arcs : List Path) (R : Points) (z : RationalPoint) (i j : ℕ) → IsInPart S arcs R z i → IsInPart S arcs R z j → i ≡ j
one_number S arcs R z i j h k =
    let up = h.is_number.least k.number k.is_number.is_arc in
    let down = k.is_number.least h.number h.is_number.is_arc in
    let e : h.number ≡ k.number = omega arith in
    let same : h.lesser ≡ k.lesser = one_ascending nat_lt nat_order h.lesser k.lesser (to_ascending h.lesser h.rising) (to_ascending k.lesser k.rising)
    (λ n c. (k.are n).1 (let (less, some) = (h.are n).0 c in (omega arith, some)))
    (λ n c. (h.are n).1 (let (less, some) = (k.are n).0 c in (omega arith, some))) in
    sym h.count ∙ ap (λ (ns : List ℕ). length ns) same ∙ k.count
