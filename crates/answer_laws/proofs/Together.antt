-- The boundary of a region is those of its parts together, so polygons that fit the parts fit the region.
use Rattle.std.proofs.Common.{◌≡◌, inl, inr, refl, sym, ap, ◌∙◌, subst, arith, ℕ, zero, suc, ◌+◌, ◌<◌, ◌≤◌, Bool, true, false, ◌&&◌, nat_eq, List, [], ◌∷◌, ◌++◌, get_or, Contains, Some}
use Rattle.std.specs.Prelude.{All}
use Rattle.std.specs.List.{AllZip, flat_map, range_with_len}
use Rattle.std.specs.List.Sorted.{IsPermutation}
use Rattle.std.proofs.lemmas.Bool.{and_parts, eq-eqb, eqb-true, false_from_ne_true}
use Rattle.std.proofs.lemmas.Grind.{flat_map-append}
use Rattle.std.proofs.lemmas.List.Elements.{All-append, All-contains, All-contains_itself, All-nil, All-weaker}
use Rattle.std.proofs.lemmas.List.Sorted.{Contains-permutation, IsPermutation-append, IsPermutation-cons, IsPermutation-middle, IsPermutation-refl, IsPermutation-sym, IsPermutation-trans}
use Rattle.lists.specs.Lists.{joined_up}
use Rattle.lists.proofs.Members.{Contains-cases, Contains-filter_map, Contains-flat_map, Contains-head, Contains-later, Contains-map, Contains-nil, flat_map-Contains}
use Rattle.plane_model.specs.Points.{RationalPoint, Segment, Path, link_between, reversed}
use Rattle.plane_model.specs.Arcs.{arcs_of}
use Rattle.plane_model.specs.Arrangement.{IsBefore, IsDistinct}
use Rattle.plane_model.specs.Boundary.{boundary_step}
use Rattle.plane_model.specs.Drawing.{Drawing, Polygon, steps, steps_of_paths}
use Rattle.plane_model.specs.Joined.{AreJoinedIn, IsArcOfPart, IsClosed, links_of_arc}
use Rattle.plane_model.specs.Parity.{odd, xor}
use Rattle.plane_model.specs.Sees.{IsOffLinks, SeesLeft, SeesRight}
use Rattle.plane_model.specs.Sides.{LeftIn, Points, RightIn}
use Rattle.plane_model.specs.Snapped.{links_of, snapped}
use Rattle.plane_model.specs.SnappedRings.{HasClosedRings}
use Rattle.plane_model.proofs.PointOrder.{clash}
use Rattle.plane_parity.proofs.Visible.{seen_from_left, seen_from_right}
use Rattle.plane_parity.proofs.Counted.{link_itself, link_reversed}
use Rattle.plane_faces.specs.Labels.{among, in_part}
use Rattle.plane_faces.specs.Places.{Place, outside, left_side, right_side, AgreesWherePlacesMeet, IsPlaceOf, border}
use Rattle.plane_faces.proofs.Connected.{border_parity}
use Rattle.plane_faces.proofs.FaceLaws.{among_agrees}
use Rattle.plane_faces.proofs.Order.{place_exists}
use Rattle.plane_faces.proofs.Parts.{border_in, passes_filter}
use Rattle.plane_faces.proofs.Sorting.{rotations_exist}
use Rattle.region_model.specs.Region.{Region, Has, part}
use Rattle.region_model.specs.Answers.{Answers, AreRight, boundary, plane_of}
use Rattle.region_model.specs.Printed.{EachRegionIsPrinted, FitsPartOf}
use Rattle.face_sets.proofs.GapLemmas.{in_range}
use Rattle.region_laws.proofs.OffLinks.{off_from_left, off_from_right}
use Rattle.region_laws.proofs.MosaicTold.{from_start}
use Rattle.region_laws.proofs.Walked.{links_arranged, links_distinct}
use Rattle.region_laws.proofs.Parts.{one_number}
use Rattle.printed_laws.proofs.Constant.{has_face, joined_back, one_part}
use Rattle.answer_laws.proofs.Bounding.{IsAlong, boundary_distinct, distinct_moved, not_turned, of_boundary}
use Rattle.answer_laws.proofs.Covers.{some_arc}
use Rattle.answer_laws.proofs.Exist.{has_told, links_of_arcs}
use Rattle.answer_laws.proofs.FaceSets.{from_left, from_right, label, labelling, left_has, right_has}
use Rattle.answer_laws.proofs.PartPolygons.{each_part_is_printed, has_label, joined_by_part, label_tells, not_outer, part_of, parts_labelled}
use Rattle.answer_laws.proofs.Parts.{part_exists}
use Rattle.answer_laws.proofs.Trails.{GoesAlong}

-- ---- lists with the same elements

cut_at : (xs : List Segment) (x : Segment) → Contains xs x → (before : List Segment) × (after : List Segment) × (xs ≡ before ++ x ∷ after)
cut_at [] x c = Contains-nil x c
cut_at (y ∷ ys) x c = elim (Contains-cases y ys x c) [
  | inl e ↦ ([], ys, ap (λ (z : Segment). z ∷ ys) e)
  | inr k ↦ (let (before, after, is) = cut_at ys x k in (y ∷ before, after, ap (λ (zs : List Segment). y ∷ zs) is))
]

same_elements : (xs ys : List Segment) → IsDistinct xs → IsDistinct ys → ((t : Segment) → Contains xs t → Contains ys t) → ((t : Segment) → Contains ys t → Contains xs t) → IsPermutation xs ys
same_elements [] [] h k to from = IsPermutation-refl []
same_elements [] (y ∷ ys) h k to from = Contains-nil y (from y (Contains-head y ys))
same_elements (x ∷ xs) ys h k to from =
    let (before, after, is) = cut_at ys x (to x (Contains-head x xs)) in
    let out : IsPermutation ys (x ∷ (before ++ after)) = subst (λ (zs : List Segment). IsPermutation zs (x ∷ (before ++ after))) (sym is) (IsPermutation-middle before x after) in
    let once : IsDistinct (x ∷ (before ++ after)) = distinct_moved ys (x ∷ (before ++ after)) out k in
    let rest : IsPermutation xs (before ++ after) = same_elements xs (before ++ after) h.1 once.1
    (λ t c. elim (Contains-cases x (before ++ after) t (Contains-permutation ys (x ∷ (before ++ after)) t out (to t (Contains-later x xs t c)))) [
      | inl e ↦ absurd (All-contains (λ (y : Segment). y ≡ x → ⊥) xs t h.0 c (sym e))
      | inr m ↦ m
    ])
    (λ t c. elim (Contains-cases x xs t (from t (Contains-permutation (x ∷ (before ++ after)) ys t (IsPermutation-sym ys (x ∷ (before ++ after)) out) (Contains-later x (before ++ after) t c)))) [
      | inl e ↦ absurd (All-contains (λ (y : Segment). y ≡ x → ⊥) (before ++ after) t once.0 c (sym e))
      | inr m ↦ m
    ]) in
    IsPermutation-trans (x ∷ xs) (x ∷ (before ++ after)) ys (IsPermutation-cons x xs (before ++ after) rest) (IsPermutation-sym ys (x ∷ (before ++ after)) out)

distinct_together : (xs ys : List Segment) → IsDistinct xs → IsDistinct ys → ((t : Segment) → Contains xs t → Contains ys t → ⊥) → IsDistinct (xs ++ ys)
distinct_together [] ys h k apart = k
distinct_together (x ∷ xs) ys h k apart = (
  All-append (λ (y : Segment). y ≡ x → ⊥) xs ys h.0 (All-weaker (Contains ys) (λ (y : Segment). y ≡ x → ⊥) (λ y c e. apart y (subst (Contains (x ∷ xs)) (sym e) (Contains-head x xs)) c) ys (All-contains_itself ys)),
  distinct_together xs ys h.1 k (λ t c m. apart t (Contains-later x xs t c) m),
)

-- lists by number, of which no two have a common element
distinct_lists : (f : ℕ → List Segment) → ((j : ℕ) → IsDistinct (f j)) → ((i j : ℕ) (t : Segment) → Contains (f i) t → Contains (f j) t → i ≡ j) → (a n : ℕ) → IsDistinct (flat_map f (range_with_len a n))
distinct_lists f each apart a zero = tt
distinct_lists f each apart a (suc n) =
    distinct_together (f a) (flat_map f (range_with_len (a + 1) n)) (each a) (distinct_lists f each apart (a + 1) n)
    (λ t c k. (let (j, there, in_j) = flat_map-Contains f (range_with_len (a + 1) n) t k in
    let e = apart a j t c in_j in
    let more = from_start (a + 1) n j there in
    omega arith))

-- ---- polygons by number

zipped : (Q : ℕ → Polygon → Type 0) (a n : ℕ) → ((j : ℕ) → a ≤ j → j < a + n → (polygon : Polygon) × Q j polygon) → (polygons : List Polygon) × AllZip Q (range_with_len a n) polygons
zipped Q a zero h = ([], tt)
zipped Q a (suc n) h =
    let (polygon, first) = h a (omega arith) (omega arith) in
    let (polygons, rest) = zipped Q (a + 1) n (λ j low high. h j (omega arith) (omega arith)) in
    (polygon ∷ polygons, (first, rest))

module _ (d : Drawing) (closed : HasClosedRings d) (r : Region) (A : Answers) (right : AreRight (plane_of d) A) where
  abbrev S : List Segment
  S = links_of (snapped d)

  abbrev arcs : List Path
  arcs = arcs_of (snapped d) (links_of (snapped d))

  abbrev R : Points
  R z = Has (snapped d) (arcs_of (snapped d) (links_of (snapped d))) r z

  abbrev name : Place → ℕ
  name a = label (links_of (snapped d)) (links_arranged d) (links_distinct d) a

  abbrev named : Place → Bool
  named a = has_label d closed r (name a)

  abbrev class : Place → ℕ
  class a = part_of d closed r (name a)

  ordered : (l : Segment) → Contains (links_of (snapped d)) l → IsBefore l.start l.stop
  ordered l c = All-contains (λ (k : Segment). IsBefore k.start k.stop) S l (links_arranged d).ordered c

  -- the sides of a link with the region on both are of one part
  one_class : (l : Segment) → Contains (links_of (snapped d)) l → named (left_side l) ≡ true → named (right_side l) ≡ true → class (left_side l) ≡ class (right_side l)
  one_class l c e f = (parts_labelled d closed r).links l c (e, f)

  left_named : (l : Segment) → Contains (links_of (snapped d)) l → (z : RationalPoint) → SeesLeft (links_of (snapped d)) l z → R z → named (left_side l) ≡ true
  left_named l c z sees held =
      let (a, here) = place_exists S (links_arranged d) z in
      sym (ap (has_label d closed r) (from_left S (links_arranged d) (links_distinct d) l c z sees a here)) ∙ (label_tells d closed r z a (off_from_left S l z sees) here).1 held

  right_named : (l : Segment) → Contains (links_of (snapped d)) l → (z : RationalPoint) → SeesRight (links_of (snapped d)) l z → R z → named (right_side l) ≡ true
  right_named l c z sees held =
      let (a, here) = place_exists S (links_arranged d) z in
      sym (ap (has_label d closed r) (from_right S (links_arranged d) (links_distinct d) l c z sees a here)) ∙ (label_tells d closed r z a (off_from_right S l z sees) here).1 held

  -- ---- each point of the region is in a part

  on_arc : (l : Segment) → Contains (links_of (snapped d)) l → (n : ℕ) × Contains (links_of_arc (arcs_of (snapped d) (links_of (snapped d))) n) l
  on_arc l c = let (n, below, goes) = some_arc (snapped d) l c in (n, there n goes)
    where
      there : (n : ℕ) → GoesAlong l (get_or (arcs_of (snapped d) (links_of (snapped d))) n []) → Contains (links_of_arc (arcs_of (snapped d) (links_of (snapped d))) n) l
      there n (inl k) = subst (Contains (links_of_arc arcs n)) (link_itself l (ordered l c)) (Contains-map link_between _ l k)
      there n (inr k) = subst (Contains (links_of_arc arcs n)) (link_reversed l (ordered l c)) (Contains-map link_between _ (reversed l) k)

  module _ (z : RationalPoint) (a : Place) (off : IsOffLinks (links_of (snapped d)) z) (here : IsPlaceOf (links_of (snapped d)) z a) (held : R z) where
    -- the places of the part of z
    abbrev beside : Place → Bool
    beside b = among (label (links_of (snapped d)) (links_arranged d) (links_distinct d)) (in_part (has_label d closed r) (part_of d closed r) (class a)) b

    to_beside : (b : Place) → named b ≡ true → class b ≡ class a → beside b ≡ true
    to_beside b e f = let g = eq-eqb (class b) (class a) f in (λ i. e i && g i)

    of_beside : (b : Place) → beside b ≡ true → (named b ≡ true) × (class b ≡ class a)
    of_beside b e = let (labelled, same) = and_parts (named b) (nat_eq (class b) (class a)) e in (labelled, eqb-true (class b) (class a) same)

    bounded : (l : Segment) × Contains (border beside (links_of (snapped d))) l
    bounded =
        let agrees : AgreesWherePlacesMeet S beside = among_agrees S (label S (links_arranged d) (links_distinct d)) (labelling S (links_arranged d) (links_distinct d)).agrees (in_part (has_label d closed r) (part_of d closed r) (class a)) in
        let outer : beside outside ≡ false = ap (λ (b : Bool). b && nat_eq (class outside) (class a)) (not_outer d closed r) in
        some_odd (border beside S)
        (border_parity S (links_arranged d) (links_distinct d) (rotations_exist S (links_arranged d) (links_distinct d)) beside agrees outer z a here ∙ to_beside a ((label_tells d closed r z a off here).1 held) refl)
      where
        some_odd : (ls : List Segment) → odd ls z ≡ true → (l : Segment) × Contains ls l
        some_odd [] e = absurd (let f : false ≡ true = e in cc)
        some_odd (l ∷ ls) e = (l, Contains-head l ls)

    abbrev HasArc : Type 0
    HasArc = (n : ℕ) × IsArcOfPart (links_of (snapped d)) (arcs_of (snapped d) (links_of (snapped d))) R z n

    by_left : (l : Segment) → Contains (links_of (snapped d)) l → beside (left_side l) ≡ true → beside (right_side l) ≡ false → HasArc
    by_left l c e f =
        let (n, l_on) = on_arc l c in
        let (u, sees) = seen_from_left S (links_arranged d) l c in
        let (x, at_u) = place_exists S (links_arranged d) u in
        let same : name x ≡ name (left_side l) = from_left S (links_arranged d) (links_distinct d) l c u sees x at_u in
        let (labelled, of_class) = of_beside (left_side l) e in
        let off_u = off_from_left S l u sees in
        let held_u : R u = (label_tells d closed r u x off_u at_u).0 (ap (has_label d closed r) same ∙ labelled) in
        let joined = (joined_by_part d closed r z u a x off off_u here at_u held held_u).0 (sym of_class ∙ sym (ap (part_of d closed r) same)) in
        let none : RightIn S R l → ⊥ = (λ (v, sees_v, held_v). (let g = right_named l c v sees_v held_v in clash (beside (right_side l)) (to_beside (right_side l) g (sym (one_class l c labelled g) ∙ of_class)) f)) in
        (n, (l, l_on, (inl ((u, sees, held_u), none), (u, (held_u, joined), inl sees))))

    by_right : (l : Segment) → Contains (links_of (snapped d)) l → beside (left_side l) ≡ false → beside (right_side l) ≡ true → HasArc
    by_right l c f e =
        let (n, l_on) = on_arc l c in
        let (u, sees) = seen_from_right S (links_arranged d) l c in
        let (x, at_u) = place_exists S (links_arranged d) u in
        let same : name x ≡ name (right_side l) = from_right S (links_arranged d) (links_distinct d) l c u sees x at_u in
        let (labelled, of_class) = of_beside (right_side l) e in
        let off_u = off_from_right S l u sees in
        let held_u : R u = (label_tells d closed r u x off_u at_u).0 (ap (has_label d closed r) same ∙ labelled) in
        let joined = (joined_by_part d closed r z u a x off off_u here at_u held held_u).0 (sym of_class ∙ sym (ap (part_of d closed r) same)) in
        let none : LeftIn S R l → ⊥ = (λ (v, sees_v, held_v). (let g = left_named l c v sees_v held_v in clash (beside (left_side l)) (to_beside (left_side l) g (one_class l c g labelled ∙ of_class)) f)) in
        (n, (l, l_on, (inr ((u, sees, held_u), none), (u, (held_u, joined), inr sees))))

    has_arc : HasArc
    has_arc =
        let (l, on_border) = bounded in
        let c : Contains S l = All-contains (Contains S) (border beside S) l (border_in S beside) on_border in
        go l c (beside (left_side l)) (beside (right_side l)) refl refl (passes_filter (λ k. xor (beside (left_side k)) (beside (right_side k))) S l on_border)
      where
        go : (l : Segment) → Contains (links_of (snapped d)) l → (x y : Bool) → beside (left_side l) ≡ x → beside (right_side l) ≡ y → xor x y ≡ true → HasArc
        go l c true true e f g = absurd (let h : false ≡ true = g in cc)
        go l c true false e f g = by_left l c e f
        go l c false true e f g = by_right l c e f
        go l c false false e f g = absurd (let h : false ≡ true = g in cc)

  exists_part : (z : RationalPoint) → IsOffLinks (links_of (snapped d)) z → R z → (j : ℕ) × Has (snapped d) (arcs_of (snapped d) (links_of (snapped d))) (part r j) z
  exists_part z off held =
      let (a, here) = place_exists S (links_arranged d) z in
      let (n, arc) = has_arc z a off here held in
      let (j, in_j) = part_exists S (links_arranged d) (links_distinct d) arcs (links_of_arcs d) R (record { told = has_told d closed r; faces = has_face d closed arcs r }) z n arc in
      (j, (held, in_j))

  -- ---- the boundaries of parts

  abbrev PartSteps : ℕ → List Segment
  PartSteps j = boundary (plane_of d) A (part r j)

  -- points on both sides of a link are joined
  across : (l : Segment) → Contains (links_of (snapped d)) l → (u v : RationalPoint) → SeesLeft (links_of (snapped d)) l u → SeesRight (links_of (snapped d)) l v → R u → R v → AreJoinedIn (links_of (snapped d)) R u v
  across l c u v sees_u sees_v in_u in_v =
      let (a, at_u) = place_exists S (links_arranged d) u in
      let (b, at_v) = place_exists S (links_arranged d) v in
      (joined_by_part d closed r u v a b (off_from_left S l u sees_u) (off_from_right S l v sees_v) at_u at_v in_u in_v).0
      (ap (part_of d closed r) (from_left S (links_arranged d) (links_distinct d) l c u sees_u a at_u)
      ∙ one_class l c (left_named l c u sees_u in_u) (right_named l c v sees_v in_v)
      ∙ sym (ap (part_of d closed r) (from_right S (links_arranged d) (links_distinct d) l c v sees_v b at_v)))

  to_part : (t : Segment) → Contains (boundary (plane_of d) A r) t → (j : ℕ) × (j < A.parts r) × Contains (PartSteps j) t
  to_part t c = let (l, there, along) = of_boundary (A.left r) (A.right r) S t c in by_way l there along
    where
      by_way : (l : Segment) → Contains (links_of (snapped d)) l → IsAlong (A.left r) (A.right r) l t → (j : ℕ) × (j < A.parts r) × Contains (PartSteps j) t
      by_way l there (inl (e, f, g)) =
          let (z, sees, held) = ((right.sides r).left_side l there).0 f in
          let (j, in_j) = exists_part z (off_from_left S l z sees) held in
          let left_j = ((right.sides (part r j)).left_side l there).1 (z, sees, in_j) in
          let right_j = false_from_ne_true (A.right (part r j) l) (λ h. (let (v, sees_v, in_v) = ((right.sides (part r j)).right_side l there).0 h in clash (A.right r l) (((right.sides r).right_side l there).1 (v, sees_v, in_v.0)) g)) in (
            j,
            (right.parts r j).1 (z, off_from_left S l z sees, in_j),
            Contains-filter_map (λ (k : Segment). boundary_step (A.left (part r j) k) (A.right (part r j) k) k) S l t there ((λ i. boundary_step (left_j i) (right_j i) l) ∙ ap (λ (x : Segment). Some x) (sym e)),
          )
      by_way l there (inr (e, f, g)) =
          let (z, sees, held) = ((right.sides r).right_side l there).0 g in
          let (j, in_j) = exists_part z (off_from_right S l z sees) held in
          let right_j = ((right.sides (part r j)).right_side l there).1 (z, sees, in_j) in
          let left_j = false_from_ne_true (A.left (part r j) l) (λ h. (let (v, sees_v, in_v) = ((right.sides (part r j)).left_side l there).0 h in clash (A.left r l) (((right.sides r).left_side l there).1 (v, sees_v, in_v.0)) f)) in (
            j,
            (right.parts r j).1 (z, off_from_right S l z sees, in_j),
            Contains-filter_map (λ (k : Segment). boundary_step (A.left (part r j) k) (A.right (part r j) k) k) S l t there ((λ i. boundary_step (left_j i) (right_j i) l) ∙ ap (λ (x : Segment). Some x) (sym e)),
          )

  of_part : (j : ℕ) (t : Segment) → Contains (PartSteps j) t → Contains (boundary (plane_of d) A r) t
  of_part j t c = let (l, there, along) = of_boundary (A.left (part r j)) (A.right (part r j)) S t c in by_way l there along
    where
      by_way : (l : Segment) → Contains (links_of (snapped d)) l → IsAlong (A.left (part r j)) (A.right (part r j)) l t → Contains (boundary (plane_of d) A r) t
      by_way l there (inl (e, f, g)) =
          let (z, sees, (held, in_j)) = ((right.sides (part r j)).left_side l there).0 f in
          let left_r = ((right.sides r).left_side l there).1 (z, sees, held) in
          let right_r = false_from_ne_true (A.right r l) (λ h. (let (v, sees_v, held_v) = ((right.sides r).right_side l there).0 h in
          clash (A.right (part r j) l) (((right.sides (part r j)).right_side l there).1 (v, sees_v, (held_v, one_part S R arcs z v (across l there z v sees sees_v held held_v) j in_j))) g)) in
          Contains-filter_map (λ (k : Segment). boundary_step (A.left r k) (A.right r k) k) S l t there ((λ i. boundary_step (left_r i) (right_r i) l) ∙ ap (λ (x : Segment). Some x) (sym e))
      by_way l there (inr (e, f, g)) =
          let (z, sees, (held, in_j)) = ((right.sides (part r j)).right_side l there).0 g in
          let right_r = ((right.sides r).right_side l there).1 (z, sees, held) in
          let left_r = false_from_ne_true (A.left r l) (λ h. (let (v, sees_v, held_v) = ((right.sides r).left_side l there).0 h in
          clash (A.left (part r j) l) (((right.sides (part r j)).left_side l there).1 (v, sees_v, (held_v, one_part S R arcs z v (joined_back S R v z (across l there v z sees_v sees held_v held)) j in_j))) f)) in
          Contains-filter_map (λ (k : Segment). boundary_step (A.left r k) (A.right r k) k) S l t there ((λ i. boundary_step (left_r i) (right_r i) l) ∙ ap (λ (x : Segment). Some x) (sym e))

  -- a side of a link belongs to one part
  left_of_one : (i j : ℕ) (l : Segment) → Contains (links_of (snapped d)) l → A.left (part r i) l ≡ true → A.left (part r j) l ≡ true → i ≡ j
  left_of_one i j l c e f =
      let (z, sees, (held, in_i)) = ((right.sides (part r i)).left_side l c).0 e in
      let (a, here) = place_exists S (links_arranged d) z in
      let in_j = left_has S (links_arranged d) (links_distinct d) (λ w. Has (snapped d) arcs (part r j) w) (record { told = has_told d closed (part r j); faces = has_face d closed arcs (part r j) }) l c (((right.sides (part r j)).left_side l c).0 f) z a here
      (from_left S (links_arranged d) (links_distinct d) l c z sees a here) in
      one_number S arcs R z i j in_i in_j.1

  right_of_one : (i j : ℕ) (l : Segment) → Contains (links_of (snapped d)) l → A.right (part r i) l ≡ true → A.right (part r j) l ≡ true → i ≡ j
  right_of_one i j l c e f =
      let (z, sees, (held, in_i)) = ((right.sides (part r i)).right_side l c).0 e in
      let (a, here) = place_exists S (links_arranged d) z in
      let in_j = right_has S (links_arranged d) (links_distinct d) (λ w. Has (snapped d) arcs (part r j) w) (record { told = has_told d closed (part r j); faces = has_face d closed arcs (part r j) }) l c (((right.sides (part r j)).right_side l c).0 f) z a here
      (from_right S (links_arranged d) (links_distinct d) l c z sees a here) in
      one_number S arcs R z i j in_i in_j.1

  of_one_part : (i j : ℕ) (t : Segment) → Contains (PartSteps i) t → Contains (PartSteps j) t → i ≡ j
  of_one_part i j t c k =
      let (l, l_there, l_along) = of_boundary (A.left (part r i)) (A.right (part r i)) S t c in
      let (m, m_there, m_along) = of_boundary (A.left (part r j)) (A.right (part r j)) S t k in
      by_way l m l_there m_there l_along m_along
    where
      by_way : (l m : Segment) → Contains (links_of (snapped d)) l → Contains (links_of (snapped d)) m → IsAlong (A.left (part r i)) (A.right (part r i)) l t → IsAlong (A.left (part r j)) (A.right (part r j)) m t → i ≡ j
      by_way l m l_there m_there (inl (e, f, g)) (inl (u, v, w)) = left_of_one i j l l_there f (ap (A.left (part r j)) (sym e ∙ u) ∙ v)
      by_way l m l_there m_there (inl (e, f, g)) (inr (u, v, w)) = absurd (not_turned (A.left r) (A.right r) l m (ordered l l_there) (ordered m m_there) (sym e ∙ u))
      by_way l m l_there m_there (inr (e, f, g)) (inl (u, v, w)) = absurd (not_turned (A.left r) (A.right r) m l (ordered m m_there) (ordered l l_there) (sym u ∙ e))
      by_way l m l_there m_there (inr (e, f, g)) (inr (u, v, w)) = right_of_one i j l l_there g (ap (A.right (part r j)) (ap reversed (sym e ∙ u)) ∙ w)

  pub together : IsPermutation (boundary (plane_of d) A r) (flat_map PartSteps (range_with_len 0 (A.parts r)))
  together =
      same_elements (boundary (plane_of d) A r) (flat_map PartSteps (range_with_len 0 (A.parts r))) (boundary_distinct (A.left r) (A.right r) S (links_arranged d) (links_distinct d))
      (distinct_lists PartSteps (λ j. boundary_distinct (A.left (part r j)) (A.right (part r j)) S (links_arranged d) (links_distinct d)) of_one_part 0 (A.parts r))
      (λ t c. (let (j, below, k) = to_part t c in Contains-flat_map PartSteps (range_with_len 0 (A.parts r)) j t (in_range (A.parts r) j below) k))
      (λ t c. (let (j, there, k) = flat_map-Contains PartSteps (range_with_len 0 (A.parts r)) t c in of_part j t k))

  pub used_together : (js : List ℕ) (polygons : List Polygon) → AllZip (FitsPartOf (plane_of d) A r) js polygons → IsPermutation (flat_map PartSteps js) (steps_of_paths (joined_up polygons)) × All IsClosed (joined_up polygons)
  used_together [] [] h = (IsPermutation-refl [], All-nil IsClosed)
  used_together [] (polygon ∷ polygons) h = absurd h
  used_together (j ∷ js) [] h = absurd h
  used_together (j ∷ js) (polygon ∷ polygons) (fits, rest) =
      let (same, closes) = used_together js polygons rest in (
        subst (IsPermutation (PartSteps j ++ flat_map PartSteps js)) (sym (flat_map-append steps polygon (joined_up polygons)))
            (IsPermutation-append (PartSteps j) (steps_of_paths polygon) (flat_map PartSteps js) (steps_of_paths (joined_up polygons)) fits.uses.steps_once same),
        All-append IsClosed polygon (joined_up polygons) fits.uses.closed closes,
      )

pub each_region_is_printed : EachRegionIsPrinted
each_region_is_printed d A closed right r =
    let (polygons, fits) = zipped (FitsPartOf (plane_of d) A r) 0 (A.parts r) (λ j low high. each_part_is_printed d A closed right r j (omega arith)) in
    let (same, closes) = used_together d closed r A right (range_with_len 0 (A.parts r)) polygons fits in (
      polygons,
      record {
        whole = record {
          closed = closes;
          steps_once = IsPermutation-trans (boundary (plane_of d) A r) (flat_map (λ j. boundary (plane_of d) A (part r j)) (range_with_len 0 (A.parts r))) (steps_of_paths (joined_up polygons)) (together d closed r A right) same;
        };
        by_parts = fits;
      },
    )
