-- The gaps of a set of faces that a region follows are the gaps of the region, in order.
use Rattle.std.proofs.Common.{◌≡◌, ◌⊎◌, inl, inr, refl, sym, ap, subst, ◌∙◌, arith, ℕ, ◌<◌, Bool, true, false, not, List, [], All, Contains, filter, length, get_or, nat_eq, nat_lt}
use Rattle.std.specs.Prelude.{◌↔◌}
use Rattle.std.specs.List.{range_with_len}
use Rattle.std.proofs.lemmas.Bool.{cases_Bool}
use Rattle.std.proofs.lemmas.List.{get_or_default}
use Rattle.std.proofs.lemmas.List.Elements.{All-contains, All-from_get_or, All-get_or, Contains-get_or}
use Rattle.lists.specs.Lists.{has, joined_up}
use Rattle.lists.proofs.Ascending.{Contains-ascending, ascending-Contains}
use Rattle.lists.proofs.Members.{Contains-filter, Contains-joined_up, filter-Contains, joined_up-Contains}
use Rattle.plane_model.specs.Points.{RationalPoint, Segment, Path}
use Rattle.plane_model.specs.Arrangement.{IsArrangement, IsDistinct}
use Rattle.plane_model.specs.Drawing.{Drawing}
use Rattle.plane_model.specs.Joined.{AreJoinedIn, IsArcOfPart, IsBoundaryLink, IsPartNumber, links_of_arc}
use Rattle.plane_model.specs.Sees.{IsOffLinks}
use Rattle.plane_model.specs.Sides.{LeftIn, Points, RightIn}
use Rattle.plane_model.specs.Snapped.{links_of, snapped}
use Rattle.plane_faces.specs.Labels.{IsFaceLabelling}
use Rattle.plane_faces.specs.Places.{Place, outside, left_side, right_side, IsBeside, IsPlaceOf}
use Rattle.plane_faces.proofs.FaceLaws.{place_beside}
use Rattle.plane_faces.proofs.Order.{place_exists}
use Rattle.plane_faces.proofs.Tables.{place_is_one}
use Rattle.arc_table.specs.Along.{GoAlong}
use Rattle.face_walk.specs.Places.{FaceTable, IsBuiltOf}
use Rattle.face_laws.specs.Faces.{AreFreeInside, IsFaceOfPlace}
use Rattle.face_laws.proofs.StepLemmas.{step_on}
use Rattle.face_sets.specs.Gaps.{has_outer, outside_of}
use Rattle.face_sets.specs.Joined.{AreParts}
use Rattle.face_sets.specs.Sets.{IsInnerFace, IsSetOf}
use Rattle.face_sets.proofs.BoundaryLemmas.{Contains_has, has_Contains}
use Rattle.face_sets.proofs.GapLemmas.{gaps_inner, in_range, of_range}
use Rattle.face_sets.proofs.SetLemmas.{nat_order}
use Rattle.part_laws.specs.Parts.{number_of}
use Rattle.part_laws.proofs.BoundedLaws.{outside_is_not}
use Rattle.part_laws.proofs.ClassLemmas.{are_classes, numbered}
use Rattle.region_ops.specs.Filled.{all_faces}
use Rattle.region_model.specs.Region.{Region, GapWith, IsArcOfGap, IsGapNumber, IsInGap, IsInPart, IsLeastOfSome, IsLeastOfSomeGap, IsLeftOfLinks, SomeHas, regions_of}
use Rattle.region_model.specs.PolygonCommands.{regions_at}
use Rattle.region_laws.specs.Gaps.{FollowGaps, GapsAreFollowed}
use Rattle.region_laws.specs.Regions.{FollowEach}
use Rattle.region_laws.proofs.FarLeft.{exists_far_left, left_is_outside}
use Rattle.region_laws.proofs.GapParts.{from_all, kept_parts, part_at, to_all}
use Rattle.region_laws.proofs.OffLinks.{off_from_side}
use Rattle.region_laws.proofs.Outside.{is_out, kept_in, left_to_right, of_out, one_part_joined, out_is_not, right_to_left}
use Rattle.region_laws.proofs.Parts.{in_no_other, part_followed, some_point, step_of}
use Rattle.region_laws.proofs.Sets.{at_some, some_at}
use Rattle.region_laws.proofs.Sides.{joined_by_parts, left_belongs, right_belongs, seen_left, seen_right}
use Rattle.region_laws.proofs.Walked.{arcs_free, label_below as walked_below, labels_faces, links_arranged, links_distinct}

module _ (S : List Segment) (arr : IsArrangement S) (distinct : IsDistinct S) (arcs : List Path) (long : All (λ arc. 1 < length arc) arcs) (along : GoAlong S arcs) (free : AreFreeInside S arcs) (faces : FaceTable) (built : IsBuiltOf arcs faces)
    (label : Place → ℕ) (by : IsFaceOfPlace arcs faces label) (labelling : IsFaceLabelling S label) (label_below : (a : Place) → IsBeside S a → label a < faces.count)
    (set : List ℕ) (R : Points) (follows : (z : RationalPoint) → IsOffLinks S z → (a : Place) → IsPlaceOf S z a → R z ↔ Contains set (label a))
    (parts : List (List ℕ)) (are : AreParts faces (outside_of faces set) parts) where
  abbrev is_shut : List ℕ → Bool
  is_shut part = not (has_outer faces part)

  -- the gaps, their faces, and the points of these
  abbrev gaps : List (List ℕ)
  gaps = filter is_shut parts

  abbrev gap : ℕ → List ℕ
  gap j = get_or gaps j []

  abbrev shut_faces : List ℕ
  shut_faces = all_faces gaps

  abbrev Q : Points
  Q z = (a : Place) × IsPlaceOf S z a × Contains shut_faces (label a)

  q_follows : (z : RationalPoint) → IsOffLinks S z → (a : Place) → IsPlaceOf S z a → Q z ↔ Contains shut_faces (label a)
  q_follows z off a here = (
    λ (b, at_b, c). subst (λ (x : Place). Contains shut_faces (label x)) (place_is_one S arr z b a at_b here) c,
    λ c. (a, here, c),
  )

  gap_of_face : (k : ℕ) → Contains shut_faces k → (j : ℕ) × (j < length gaps) × Contains (gap j) k
  gap_of_face = from_all faces (outside_of faces set) parts are is_shut

  face_of_gap : (j k : ℕ) → j < length gaps → Contains (gap j) k → Contains shut_faces k
  face_of_gap = to_all faces (outside_of faces set) parts are is_shut

  are_parts : AreParts faces shut_faces gaps
  are_parts = kept_parts faces (outside_of faces set) parts are is_shut

  inner : IsSetOf faces shut_faces
  inner = All-from_get_or (IsInnerFace faces) shut_faces 0 (λ i l.
      let k = get_or shut_faces i 0 in
      let (j, m, c) = gap_of_face k (Contains-get_or shut_faces i 0 l) in
      All-contains (IsInnerFace faces) (gap j) k (All-get_or (IsSetOf faces) gaps j [] m (gaps_inner faces set parts are.divided.faces)) c)

  -- ---- faces of gaps

  outer_is : get_or faces.places 0 0 ≡ label outside
  outer_is = sym by.outside_all

  -- a gap as a part of what is outside
  record IsPart (j i : ℕ) : Type 0 where
    there : i < length parts
    is : get_or parts i [] ≡ gap j
    shut : has nat_eq (get_or parts i []) (label outside) ≡ false

  part_of : (j : ℕ) → j < length gaps → (i : ℕ) × IsPart j i
  part_of j l =
      let (i, m, is) = part_at faces (outside_of faces set) parts are is_shut j l in
      let passes = (filter-Contains is_shut parts (gap j) (Contains-get_or gaps j [] l)).1 in (
        i,
        record {
          there = m;
          is = is;
          shut = unnot (has nat_eq (get_or parts i []) (label outside)) (ap (λ (xs : List ℕ). not (has nat_eq xs (label outside))) is ∙ ap (λ (k : ℕ). not (has nat_eq (gap j) k)) (sym outer_is) ∙ passes);
        },
      )
    where
      unnot : (b : Bool) → not b ≡ true → b ≡ false
      unnot true e = sym e
      unnot false e = refl

  outside_of_set : (k : ℕ) → Contains shut_faces k → Contains set k → ⊥
  outside_of_set k c =
      let (j, l, d) = gap_of_face k c in
      let (i, h) = part_of j l in
      out_is_not S arr distinct arcs long along faces built label by labelling label_below set R follows parts are k
      (of_out S arr distinct arcs long along faces built label by labelling label_below set R follows parts are i k h.there (subst (λ (xs : List ℕ). Contains xs k) (sym h.is) d))

  -- ---- joined points

  gap_joined : (j : ℕ) → j < length gaps → (u v : RationalPoint) (a b : Place) → IsPlaceOf S u a → IsPlaceOf S v b → Contains (gap j) (label a) → Contains (gap j) (label b) → AreJoinedIn S R u v
  gap_joined j l u v a b at_u at_v in_u in_v =
      let (i, h) = part_of j l in
      one_part_joined S arr distinct arcs long along faces built label by labelling label_below set R follows parts are i h.there u v a b at_u at_v
      (subst (λ (xs : List ℕ). Contains xs (label a)) (sym h.is) in_u) (subst (λ (xs : List ℕ). Contains xs (label b)) (sym h.is) in_v)

  joined_gap : (j : ℕ) → j < length gaps → (u v : RationalPoint) (a b : Place) → IsPlaceOf S u a → IsPlaceOf S v b → Contains (gap j) (label a) → AreJoinedIn S R u v → Contains (gap j) (label b)
  joined_gap j l u v a b at_u at_v in_u joined =
      let (i, h) = part_of j l in
      subst (λ (xs : List ℕ). Contains xs (label b)) h.is
      (kept_in S arr distinct arcs long along faces built label by labelling label_below set R follows parts are i h.there h.shut u v a b at_u at_v (subst (λ (xs : List ℕ). Contains xs (label a)) (sym h.is) in_u) joined)

  q_joined : (u v : RationalPoint) (a b : Place) → IsPlaceOf S u a → IsPlaceOf S v b → Contains shut_faces (label a) → Contains shut_faces (label b) → (number_of gaps (label a) ≡ number_of gaps (label b)) ↔ AreJoinedIn S Q u v
  q_joined =
      joined_by_parts S arr distinct label labelling shut_faces Q q_follows (outside_is_not S arr distinct arcs long along free faces built label by shut_faces inner) (number_of gaps)
      (are_classes S arr arcs long along faces built label by shut_faces gaps are_parts)

  gap_number : (j k : ℕ) → j < length gaps → Contains (gap j) k → number_of gaps k ≡ j
  gap_number j k l c =
      let (m, there) = numbered S arr arcs long along faces built label by shut_faces gaps are_parts k (face_of_gap j k l c) in
      are_parts.divided.once (number_of gaps k) j k m l there c

  -- ---- links of the boundary

  left_q : (l : Segment) → Contains S l → LeftIn S Q l ↔ Contains shut_faces (label (left_side l))
  left_q l on = left_belongs S arr distinct label labelling shut_faces Q q_follows l on

  right_q : (l : Segment) → Contains S l → RightIn S Q l ↔ Contains shut_faces (label (right_side l))
  right_q l on = right_belongs S arr distinct label labelling shut_faces Q q_follows l on

  left_r : (l : Segment) → Contains S l → LeftIn S R l ↔ Contains set (label (left_side l))
  left_r l on = left_belongs S arr distinct label labelling set R follows l on

  right_r : (l : Segment) → Contains S l → RightIn S R l ↔ Contains set (label (right_side l))
  right_r l on = right_belongs S arr distinct label labelling set R follows l on

  bounds_q : (l : Segment) → Contains S l → Contains shut_faces (label (left_side l)) ⊎ Contains shut_faces (label (right_side l)) → IsBoundaryLink S R l → IsBoundaryLink S Q l
  bounds_q l on (inl left) (inl h) = absurd (outside_of_set (label (left_side l)) left ((left_r l on).0 h.0))
  bounds_q l on (inl left) (inr h) = inl ((left_q l on).1 left, λ q. outside_of_set (label (right_side l)) ((right_q l on).0 q) ((right_r l on).0 h.0))
  bounds_q l on (inr right) (inl h) = inr ((right_q l on).1 right, λ q. outside_of_set (label (left_side l)) ((left_q l on).0 q) ((left_r l on).0 h.0))
  bounds_q l on (inr right) (inr h) = absurd (outside_of_set (label (right_side l)) right ((right_r l on).0 h.0))

  in_set_or : (k : ℕ) → Contains set k ⊎ (Contains set k → ⊥)
  in_set_or k = elim (cases_Bool (has nat_eq set k)) [
    | inl found ↦ inl (has_Contains set k found)
    | inr missed ↦ inr (λ c. let f : true ≡ false = sym (Contains_has set k c) ∙ missed in absurd (cc))
  ]

  bounds_r : (l : Segment) → Contains S l → IsBoundaryLink S Q l → IsBoundaryLink S R l
  bounds_r l on (inl h) =
      let left = (left_q l on).0 h.0 in
      let (j, m, c) = gap_of_face (label (left_side l)) left in
      let (i, part) = part_of j m in
      elim (in_set_or (label (right_side l))) [
        | inl there ↦ inr ((right_r l on).1 there, λ r. outside_of_set (label (left_side l)) left ((left_r l on).0 r))
        | inr apart ↦ absurd (h.1 ((right_q l on).1 (face_of_gap j (label (right_side l)) m (subst (λ (xs : List ℕ). Contains xs (label (right_side l))) part.is
            (left_to_right S arr distinct arcs long along faces built label by labelling label_below set R follows parts are i l part.there on (subst (λ (xs : List ℕ). Contains xs (label (left_side l))) (sym part.is) c) apart)))))
      ]
  bounds_r l on (inr h) =
      let right = (right_q l on).0 h.0 in
      let (j, m, c) = gap_of_face (label (right_side l)) right in
      let (i, part) = part_of j m in
      elim (in_set_or (label (left_side l))) [
        | inl there ↦ inl ((left_r l on).1 there, λ r. outside_of_set (label (right_side l)) right ((right_r l on).0 r))
        | inr apart ↦ absurd (h.1 ((left_q l on).1 (face_of_gap j (label (left_side l)) m (subst (λ (xs : List ℕ). Contains xs (label (left_side l))) part.is
            (right_to_left S arr distinct arcs long along faces built label by labelling label_below set R follows parts are i l part.there on (subst (λ (xs : List ℕ). Contains xs (label (right_side l))) (sym part.is) c) apart)))))
      ]

  link_there : (n : ℕ) (l : Segment) → Contains (links_of_arc arcs n) l → Contains S l
  link_there n l c =
      let (j, s, step, is) = step_of S arr distinct arcs long along free faces built label by labelling shut_faces inner gaps are_parts Q q_follows n l c in
      subst (Contains S) is (step_on arcs S arr long along n j s step)

  -- ---- arcs and numbers of the gap that a point is in

  module _ (z : RationalPoint) (off : IsOffLinks S z) (a : Place) (here : IsPlaceOf S z a) (j : ℕ) (l : j < length gaps) (in_gap : Contains (gap j) (label a)) where
    arc_to : (n : ℕ) → IsArcOfGap S arcs R z n → IsArcOfPart S arcs Q z n
    arc_to n (m, there, bound, (w, (apart, joined), sees)) =
        let on = link_there n m there in
        let off_w = off_from_side S m w sees in
        let (b, at_w) = place_exists S arr w in
        let in_w : Contains (gap j) (label b) = joined_gap j l z w a b here at_w in_gap joined in
        let shut_w = face_of_gap j (label b) l in_w in
        let side : Contains shut_faces (label (left_side m)) ⊎ Contains shut_faces (label (right_side m)) = elim sees [
          | inl left ↦ inl (subst (Contains shut_faces) (seen_left S arr distinct label labelling m on w left b at_w) shut_w)
          | inr right ↦ inr (subst (Contains shut_faces) (seen_right S arr distinct label labelling m on w right b at_w) shut_w)
        ] in
        let same = gap_number j (label a) l in_gap ∙ sym (gap_number j (label b) l in_w) in
        (m, there, (bounds_q m on side bound, (w, ((b, at_w, shut_w), (q_joined z w a b here at_w (face_of_gap j (label a) l in_gap) shut_w).0 same), sees)))

    arc_from : (n : ℕ) → IsArcOfPart S arcs Q z n → IsArcOfGap S arcs R z n
    arc_from n (m, there, (bound, (w, (in_q, joined), sees))) =
        let on = link_there n m there in
        let off_w = off_from_side S m w sees in
        let (b, at_w) = place_exists S arr w in
        let shut_w = (q_follows w off_w b at_w).0 in_q in
        let same = (q_joined z w a b here at_w (face_of_gap j (label a) l in_gap) shut_w).1 joined in
        let (i, k, c) = gap_of_face (label b) shut_w in
        let one : i ≡ j = sym (gap_number i (label b) k c) ∙ sym same ∙ gap_number j (label a) l in_gap in
        let in_w : Contains (gap j) (label b) = subst (λ (p : ℕ). Contains (gap p) (label b)) one c in
        (m, there, bounds_r m on bound, (w, (λ r. outside_of_set (label b) shut_w ((follows w off_w b at_w).0 r), gap_joined j l z w a b here at_w in_gap in_w), sees))

    number_to : (n : ℕ) → IsGapNumber S arcs R z n → IsPartNumber S arcs Q z n
    number_to n h = record { is_arc = arc_to n h.is_arc; least = λ m c. h.least m (arc_from m c) }

    number_from : (n : ℕ) → IsPartNumber S arcs Q z n → IsGapNumber S arcs R z n
    number_from n h = record {
      bounded = λ w off_w gapped left.
          let (i, part) = part_of j l in
          let c = joined_gap j l z w a outside here (left_is_outside S w left) in_gap gapped.1 in
          let e : true ≡ false = sym (Contains_has (get_or parts i []) (label outside) (subst (λ (xs : List ℕ). Contains xs (label outside)) (sym part.is) c)) ∙ part.shut in
          absurd (cc);
      is_arc = arc_from n h.is_arc;
      least = λ m c. h.least m (arc_to m c);
    }

  -- ---- points that are shut in are in a gap

  shut_in_gap : (z : RationalPoint) → IsOffLinks S z → (a : Place) → IsPlaceOf S z a → (R z → ⊥) → ((w : RationalPoint) → IsOffLinks S w → GapWith S R z w → IsLeftOfLinks S w → ⊥) → (j : ℕ) × (j < length gaps) × Contains (gap j) (label a)
  shut_in_gap z off a here apart bounded =
      let out = is_out S arr distinct arcs long along faces built label by labelling label_below set R follows parts are a (place_beside S z a here) (λ c. apart ((follows z off a here).1 c)) in
      let i = number_of parts (label a) in
      let (below, there) = numbered S arr arcs long along faces built label by (outside_of faces set) parts are (label a) out in
      elim (cases_Bool (has_outer faces (get_or parts i []))) [
        | inl outer ↦
            (let (w, off_w, left) = exists_far_left S arr in
            let at_w = left_is_outside S w left in
            let c : Contains (get_or parts i []) (label outside) = subst (Contains (get_or parts i [])) outer_is (has_Contains (get_or parts i []) (get_or faces.places 0 0) outer) in
            let far : R w → ⊥ = (λ r.
            out_is_not S arr distinct arcs long along faces built label by labelling label_below set R follows parts are (label outside)
            (of_out S arr distinct arcs long along faces built label by labelling label_below set R follows parts are i (label outside) below c) ((follows w off_w outside at_w).0 r)) in
            absurd (bounded w off_w (far, one_part_joined S arr distinct arcs long along faces built label by labelling label_below set R follows parts are i below z w a outside here at_w there c) left))
        | inr inside ↦
            (let (j, l, is) = Contains-filter is_shut parts (get_or parts i []) (Contains-get_or parts i [] below) (ap not inside) in
            (j, l, subst (λ (xs : List ℕ). Contains xs (label a)) (sym is ∙ get_or_default gaps j (get_or parts i []) [] l) there))
      ]

  -- ---- the least numbers of some gaps

  some_to : (n : ℕ) → IsLeastOfSomeGap S arcs R n → IsLeastOfSome S arcs Q n
  some_to n (w, off, apart, number) =
      let (b, at_w) = place_exists S arr w in
      let (j, l, c) = shut_in_gap w off b at_w apart number.bounded in
      (w, off, (b, at_w, face_of_gap j (label b) l c), number_to w off b at_w j l c n number)

  some_from : (n : ℕ) → IsLeastOfSome S arcs Q n → IsLeastOfSomeGap S arcs R n
  some_from n (w, off, (b, at_w, shut_w), number) =
      let (j, l, c) = gap_of_face (label b) shut_w in
      (w, off, (λ r. outside_of_set (label b) shut_w ((follows w off b at_w).0 r)), number_from w off b at_w j l c n number)

  module _ (z : RationalPoint) (off : IsOffLinks S z) (a : Place) (here : IsPlaceOf S z a) (i : ℕ) (l : i < length gaps) (in_gap : Contains (gap i) (label a)) (j : ℕ) where
    to_part : IsInGap S arcs R z j → IsInPart S arcs Q z j
    to_part h = record {
      number = h.number;
      is_number = number_to z off a here i l in_gap h.number h.is_number;
      lesser = h.lesser;
      rising = h.rising;
      are = λ n. (λ c. let (less, some) = (h.are n).0 c in (less, some_to n some), λ (less, some). (h.are n).1 (less, some_from n some));
      count = h.count;
    }

    from_part : IsInPart S arcs Q z j → IsInGap S arcs R z j
    from_part h = record {
      number = h.number;
      is_number = number_from z off a here i l in_gap h.number h.is_number;
      lesser = h.lesser;
      rising = h.rising;
      are = λ n. (λ c. let (less, some) = (h.are n).0 c in (less, some_from n some), λ (less, some). (h.are n).1 (less, some_to n some));
      count = h.count;
    }

  -- ---- the gaps are followed

  followed : (j : ℕ) → j < length gaps → (z : RationalPoint) → IsOffLinks S z → (a : Place) → IsPlaceOf S z a → (Q z × IsInPart S arcs Q z j) ↔ Contains (gap j) (label a)
  followed = part_followed S arr distinct arcs long along free faces built label by labelling shut_faces inner gaps are_parts Q q_follows

  pub gap_followed : (j : ℕ) → j < length gaps → (z : RationalPoint) → IsOffLinks S z → (a : Place) → IsPlaceOf S z a → ((R z → ⊥) × IsInGap S arcs R z j) ↔ Contains (gap j) (label a)
  gap_followed j l z off a here = (
    λ (apart, h).
        (let (i, k, c) = shut_in_gap z off a here apart h.is_number.bounded in
        (followed j l z off a here).0 ((a, here, face_of_gap i (label a) k c), to_part z off a here i k c j h)),
    λ c. (λ r. outside_of_set (label a) (face_of_gap j (label a) l c) ((follows z off a here).0 r), from_part z off a here j l c j ((followed j l z off a here).1 c).1),
  )

  -- and no others have points
  pub gap_below : (j : ℕ) (z : RationalPoint) → IsOffLinks S z → (R z → ⊥) × IsInGap S arcs R z j → j < length gaps
  gap_below j z off (apart, h) =
      let (a, here) = place_exists S arr z in
      let (i, l, c) = shut_in_gap z off a here apart h.is_number.bounded in
      let same : j ≡ i = in_no_other S arr distinct arcs long along free faces built label by labelling shut_faces inner gaps are_parts Q q_follows z off a here i l c j (to_part z off a here i l c j h) in
      omega arith

  pub some_gap_point : (j : ℕ) → j < length gaps → (z : RationalPoint) × IsOffLinks S z × ((R z → ⊥) × IsInGap S arcs R z j)
  some_gap_point j l =
      let (z, off, in_part) = some_point S arr distinct arcs long along free faces built label by labelling shut_faces inner gaps are_parts Q q_follows j l in
      let (a, here) = place_exists S arr z in
      (z, off, (gap_followed j l z off a here).1 ((followed j l z off a here).0 in_part))

  pub some_gap : (z : RationalPoint) → IsOffLinks S z → (R z → ⊥) → ((w : RationalPoint) → IsOffLinks S w → GapWith S R z w → IsLeftOfLinks S w → ⊥) → (j : ℕ) × (j < length gaps) × ((R z → ⊥) × IsInGap S arcs R z j)
  some_gap z off apart bounded =
      let (a, here) = place_exists S arr z in
      let (j, l, c) = shut_in_gap z off a here apart bounded in
      (j, l, (gap_followed j l z off a here).1 c)

-- ---- all regions of some sets

union_followed : (d : Drawing) (arcs : List Path) (label : Place → ℕ) (sets : List (List ℕ)) (region : ℕ → Region) → FollowEach d arcs label sets region → (z : RationalPoint) → IsOffLinks (links_of d) z → (a : Place) → IsPlaceOf (links_of d) z a →
    SomeHas d arcs (regions_of (regions_at region (range_with_len 0 (length sets)))) z ↔ Contains (all_faces sets) (label a)
union_followed d arcs label sets region each z off a here = (
  λ h.
      (let (n, in_all, held) = at_some d arcs z region (range_with_len 0 (length sets)) h in
      let below = of_range (length sets) n in_all in
      Contains-ascending nat_lt nat_order (joined_up sets) (label a) (Contains-joined_up sets (get_or sets n []) (label a) (Contains-get_or sets n [] below) ((each n below z off a here).0 held))),
  λ c.
      (let (xs, (n, l, is), there) = joined_up-Contains sets (label a) (ascending-Contains nat_lt nat_order (joined_up sets) (label a) c) in
      some_at d arcs z region (range_with_len 0 (length sets)) n (in_range (length sets) n l) ((each n l z off a here).1 (subst (λ (ys : List ℕ). Contains ys (label a)) (sym is ∙ get_or_default sets n xs [] l) there))),
)

pub gaps_are_followed : GapsAreFollowed
gaps_are_followed d arcs faces label walked sets inner_sets region each are_gaps are =
    subst (λ (some : List (List ℕ)). FollowGaps (snapped d) arcs label some (regions_at region (range_with_len 0 (length sets)))) (sym are.shut_in) (record {
      each = λ j l z off a here. gap_followed S (links_arranged d) (links_distinct d) arcs walked.table.long walked.table.links (arcs_free d arcs faces label walked) faces walked.built
          label walked.labelled (labels_faces d arcs faces label walked) (walked_below d arcs faces label walked) (all_faces sets) R follows are.parts are.are_parts j l z off a here;
      some = λ j l. some_gap_point S (links_arranged d) (links_distinct d) arcs walked.table.long walked.table.links (arcs_free d arcs faces label walked) faces walked.built
          label walked.labelled (labels_faces d arcs faces label walked) (walked_below d arcs faces label walked) (all_faces sets) R follows are.parts are.are_parts j l;
      only = λ j z off h. gap_below S (links_arranged d) (links_distinct d) arcs walked.table.long walked.table.links (arcs_free d arcs faces label walked) faces walked.built
          label walked.labelled (labels_faces d arcs faces label walked) (walked_below d arcs faces label walked) (all_faces sets) R follows are.parts are.are_parts j z off h;
      all = λ z off apart shut. some_gap S (links_arranged d) (links_distinct d) arcs walked.table.long walked.table.links (arcs_free d arcs faces label walked) faces walked.built
          label walked.labelled (labels_faces d arcs faces label walked) (walked_below d arcs faces label walked) (all_faces sets) R follows are.parts are.are_parts z off apart shut;
    })
  where
    S : List Segment
    S = links_of (snapped d)

    R : Points
    R = SomeHas (snapped d) arcs (regions_of (regions_at region (range_with_len 0 (length sets))))

    follows : (z : RationalPoint) → IsOffLinks S z → (a : Place) → IsPlaceOf S z a → R z ↔ Contains (all_faces sets) (label a)
    follows = union_followed (snapped d) arcs label sets region each
