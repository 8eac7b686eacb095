-- Traced polygons are apart, and together they hold the region of the set.
use Rattle.std.proofs.Common.{◌≡◌, inl, inr, sym, ap, ◌∙◌, subst, arith, ℕ, ◌<◌, Bool, List, [], map, length, get_or, nat_eq, nat_lt, AllPairs, Contains}
use Rattle.std.specs.Prelude.{◌↔◌}
use Rattle.std.specs.List.Sorted.{IsPermutation}
use Rattle.std.proofs.lemmas.List.Sorted.{IsPermutation-map}
use Rattle.std.proofs.Math.Logic.{∥∥₁_elim}
use Rattle.std.proofs.Math.Nat.{ℕ_set}
use Rattle.std.proofs.lemmas.Bool.{cases_lt, lt-ltb}
use Rattle.std.proofs.lemmas.List.{get_or_default}
use Rattle.std.proofs.lemmas.List.Elements.{All-contains, Contains-get_or}
use Rattle.std.proofs.lemmas.List.Kept.{AllPairs-filter}
use Rattle.lists.specs.Lists.{has}
use Rattle.lists.proofs.Members.{Contains-filter, filter-Contains}
use Rattle.plane_model.specs.Points.{RationalPoint, Segment, Path, at}
use Rattle.plane_model.specs.Arcs.{SignedArc}
use Rattle.plane_model.specs.Drawing.{steps_of_paths}
use Rattle.plane_model.specs.Parity.{is_below, links_of_paths, rings_hold}
use Rattle.plane_model.specs.Snapped.{links_of, snapped}
use Rattle.plane_snapping.proofs.SnappedLinks.{snapped_links_are_an_arrangement}
use Rattle.plane_faces.specs.Labels.{IsFaceLabelling}
use Rattle.plane_faces.specs.Places.{Place, IsBeside, IsPlaceOf, border, border_darts}
use Rattle.plane_faces.specs.Rings.{IsPolygon, darts_of_paths}
use Rattle.plane_faces.proofs.Classes.{parts_are_joined}
use Rattle.plane_faces.proofs.FaceLaws.{among_agrees, place_beside}
use Rattle.plane_faces.proofs.BorderRings.{link_of, links_of_border}
use Rattle.plane_faces.proofs.Connected.{border_parity}
use Rattle.plane_faces.proofs.Lists.{odd_count-permutation}
use Rattle.plane_faces.proofs.Runs.{all_links}
use Rattle.plane_faces.proofs.Sorting.{rotations_exist}
use Rattle.plane_faces.proofs.Order.{place_exists}
use Rattle.plane_faces.proofs.Tables.{place_is_one}
use Rattle.face_walk.specs.Places.{FaceTable}
use Rattle.face_laws.specs.Faces.{IsFaceOfPlace}
use Rattle.face_laws.proofs.ClassLemmas.{faces_are_classes}
use Rattle.face_laws.proofs.LabelLemmas.{each_table_has_labels}
use Rattle.face_laws.proofs.PointLemmas.{face_of_point, whole_are_free}
use Rattle.face_sets.specs.Boundary.{boundary}
use Rattle.face_sets.specs.Parts.{IsPieceOf}
use Rattle.face_sets.specs.Sets.{IsInnerFace, IsSetOf}
use Rattle.ring_trace.specs.Traced.{bounded}
use Rattle.ring_trace.specs.Turns.{round_of}
use Rattle.face_sets.proofs.BoundaryLemmas.{has_Contains, Contains_has}
use Rattle.part_laws.specs.Parts.{AreFacesOf, AreInOne, AreTraced, IsInSome, IsWithin, PolygonsAreApart, PolygonsAreJoinedPoints, PolygonsHoldByParity, PolygonsHoldTheSet, PolygonsOfADrawing, number_of}
use Rattle.part_laws.proofs.BoundedLaws.{bounded_at, outside_is_not}
use Rattle.part_laws.proofs.ClassLemmas.{are_classes, numbered}
use Rattle.part_laws.proofs.CountLemmas.{permuted}
use Rattle.part_laws.proofs.DrawnLaws.{within, without}
use Rattle.part_laws.proofs.PolygonLaws.{same_counts}
use Rattle.part_laws.proofs.TracedLaws.{some_arc, traced_polygons_have_exteriors}

-- no face is in both
abbrev AreApart : List ℕ → List ℕ → Type 0
AreApart p q = (k : ℕ) → Contains p k → Contains q k → ⊥

module _ (S : List Segment) (arcs : List Path) (faces : FaceTable) (table : AreFacesOf S arcs faces) (set : List ℕ) (parts : List (List ℕ)) (polygons : List (List (List SignedArc))) (traced : AreTraced arcs faces set parts polygons)
    (label : Place → ℕ) (by : IsFaceOfPlace arcs faces label) where
  abbrev kept : List (List ℕ)
  kept = bounded faces.places (length arcs) parts

  -- ---- one polygon

  holds : (k : ℕ) → k < length polygons → IsPolygon S (λ place. has nat_eq (get_or kept k []) (label place)) (map (round_of arcs) (get_or polygons k []))
  holds k l =
      let (first, is) = traced_polygons_have_exteriors S table.arrangement table.distinct arcs table.long table.along table.free faces table.built label by set traced.inner parts traced.parted polygons traced.there traced.least_first traced.simple traced.in_order traced.used k l in
      is

  pub within_polygon : (k : ℕ) → k < length polygons → (z : RationalPoint) (a : Place) → IsPlaceOf S z a → Contains (get_or kept k []) (label a) → IsWithin arcs (get_or polygons k []) z
  within_polygon k l z a place c =
      within arcs S (λ p. has nat_eq (get_or kept k []) (label p)) (get_or polygons k []) (traced.in_order k [] l) (holds k l) z a place (Contains_has (get_or kept k []) (label a) c)

  pub face_within : (k : ℕ) → k < length polygons → (z : RationalPoint) (a : Place) → IsPlaceOf S z a → IsWithin arcs (get_or polygons k []) z → Contains (get_or kept k []) (label a)
  face_within k l z a place w =
      has_Contains (get_or kept k []) (label a) (without arcs S (λ p. has nat_eq (get_or kept k []) (label p)) (get_or polygons k []) (traced.in_order k [] l) (holds k l) z a place w)

  -- ---- two polygons

  parts_apart : AllPairs AreApart parts
  parts_apart i j d less l k c e =
      let same = traced.parted.divided.once i j k (omega arith) l (subst (λ (p : List ℕ). Contains p k) (get_or_default parts i d [] (omega arith)) c) (subst (λ (p : List ℕ). Contains p k) (get_or_default parts j d [] l) e) in
      omega arith

  kept_apart : AllPairs AreApart kept
  kept_apart = AllPairs-filter AreApart (λ (part : List ℕ). nat_lt 0 (length (boundary faces.places (length arcs) part))) parts parts_apart

  pub apart : (i j : ℕ) → i < length polygons → j < length polygons → (z : RationalPoint) → IsWithin arcs (get_or polygons i []) z → IsWithin arcs (get_or polygons j []) z → i ≡ j
  apart i j l m z w v =
      let (a, place) = place_exists S table.arrangement z in
      let c = face_within i l z a place w in
      let e = face_within j m z a place v in
      let size = traced.used.each in
      elim (cases_lt i j) [
        | inl less ↦ absurd (kept_apart i j [] less (omega arith) (label a) c e)
        | inr more ↦ elim (cases_lt j i) [
          | inl less ↦ absurd (kept_apart j i [] less (omega arith) (label a) e c)
          | inr same ↦ omega arith
        ]
      ]

  -- ---- all polygons

  -- what is in a part with a boundary is in the set
  of_set : (k f : ℕ) → k < length polygons → Contains (get_or kept k []) f → Contains set f
  of_set k f l c =
      let size = traced.used.each in
      let (there, some) = filter-Contains (λ (p : List ℕ). nat_lt 0 (length (boundary faces.places (length arcs) p))) parts (get_or kept k []) (Contains-get_or kept k [] (omega arith)) in
      All-contains (Contains set) (get_or kept k []) f (All-contains (IsPieceOf set) parts (get_or kept k []) traced.parted.divided.faces there).faces c

  -- the part that a polygon stands for
  part_of : (k : ℕ) → k < length polygons → (i : ℕ) × (i < length parts) × (get_or parts i [] ≡ get_or kept k [])
  part_of k l =
      let size = traced.used.each in
      let ((i, m, is), some) = filter-Contains (λ (p : List ℕ). nat_lt 0 (length (boundary faces.places (length arcs) p))) parts (get_or kept k []) (Contains-get_or kept k [] (omega arith)) in
      (i, m, get_or_default parts i [] (get_or kept k []) m ∙ is)

  -- the polygon that stands for a part with the face of a place
  polygon_of : (n : ℕ) → n < length parts → (b : Place) → IsBeside S b → Contains (get_or parts n []) (label b) → (k : ℕ) × (k < length polygons) × (get_or kept k [] ≡ get_or parts n [])
  polygon_of n l b beside c =
      let size = traced.used.each in
      let some = bounded_at S table.arrangement table.distinct arcs table.long table.along table.free faces table.built label by set traced.inner parts traced.parted n l b beside c in
      let (k, m, is) = Contains-filter (λ (p : List ℕ). nat_lt 0 (length (boundary faces.places (length arcs) p))) parts (get_or parts n []) (Contains-get_or parts n [] l) (lt-ltb 0 _ some) in
      (k, omega arith, get_or_default kept k [] (get_or parts n []) m ∙ is)

  pub held : (z : RationalPoint) (a : Place) → IsPlaceOf S z a → Contains set (label a) → IsInSome arcs polygons z
  held z a place c =
      let (i, l, d) = traced.parted.divided.each (label a) c in
      let (k, m, same) = polygon_of i l a (place_beside S z a place) d in
      (k, m, within_polygon k m z a place (subst (λ (p : List ℕ). Contains p (label a)) (sym same) d))

  pub in_set : (z : RationalPoint) (a : Place) → IsPlaceOf S z a → IsInSome arcs polygons z → Contains set (label a)
  in_set z a place (k, l, w) = of_set k (label a) l (face_within k l z a place w)

  -- ---- by parity

  links_used : (k : ℕ) → k < length polygons → IsPermutation (links_of_paths (map (round_of arcs) (get_or polygons k []))) (border (λ place. has nat_eq (get_or kept k []) (label place)) S)
  links_used k l =
      let f : Place → Bool = λ place. has nat_eq (get_or kept k []) (label place) in
      let rings = map (round_of arcs) (get_or polygons k []) in
      let counts =
      same_counts S table.arrangement table.distinct arcs table.long table.along table.free faces table.built label by (get_or kept k []) (get_or polygons k []) (traced.there k [] l) (λ j d n. some_arc (get_or (get_or polygons k []) j d) (traced.least_first k [] l j d n)) (traced.simple k [] l)
      (λ c. traced.used.once k c l) in
      subst (λ (ls : List Segment). IsPermutation ls (border f S)) (all_links (steps_of_paths rings))
      (subst (IsPermutation (map link_of (darts_of_paths rings))) (links_of_border f (border f S)) (IsPermutation-map link_of (darts_of_paths rings) (border_darts f S) (permuted (darts_of_paths rings) (border_darts f S) counts)))

  inner_part : (k : ℕ) → k < length polygons → IsSetOf faces (get_or kept k [])
  inner_part k l i d m = All-contains (IsInnerFace faces) set (get_or (get_or kept k []) i d) traced.inner (of_set k (get_or (get_or kept k []) i d) l (Contains-get_or (get_or kept k []) i d m))

  pub by_parity : (k : ℕ) → k < length polygons → (z : RationalPoint) (a : Place) → IsPlaceOf S z a → rings_hold z (map (round_of arcs) (get_or polygons k [])) ≡ has nat_eq (get_or kept k []) (label a)
  by_parity k l z a place =
      let f : Place → Bool = λ p. has nat_eq (get_or kept k []) (label p) in
      let labels : IsFaceLabelling S label = faces_are_classes S table.arrangement arcs table.long table.along table.free faces table.built label by in
      let none = outside_is_not S table.arrangement table.distinct arcs table.long table.along table.free faces table.built label by (get_or kept k []) (inner_part k l) in
      odd_count-permutation (is_below z) (links_of_paths (map (round_of arcs) (get_or polygons k []))) (border f S) (links_used k l)
      ∙ border_parity S table.arrangement table.distinct (rotations_exist S table.arrangement table.distinct) f (among_agrees S label labels.agrees (has nat_eq (get_or kept k []))) none z a place

  -- ---- two points

  -- the number of a face of a part
  number_is : (i f : ℕ) → i < length parts → Contains (get_or parts i []) f → number_of parts f ≡ i
  number_is i f l c =
      let in_set : Contains set f = All-contains (Contains set) (get_or parts i []) f (traced.parted.divided.faces i [] l).faces c in
      let (m, there) = numbered S table.arrangement arcs table.long table.along faces table.built label by set parts traced.parted f in_set in
      traced.parted.divided.once (number_of parts f) i f m l there c

  abbrev IsOfOne : Place → Place → Type 0
  IsOfOne a b = number_of parts (label a) ≡ number_of parts (label b)

  pub in_one : (u v : RationalPoint) (a b : Place) → IsPlaceOf S u a → IsPlaceOf S v b → AreInOne arcs polygons u v → IsOfOne a b
  in_one u v a b of_u of_v (k, l, in_u, in_v) =
      let (i, m, same) = part_of k l in
      number_is i (label a) m (subst (λ (p : List ℕ). Contains p (label a)) (sym same) (face_within k l u a of_u in_u))
      ∙ sym (number_is i (label b) m (subst (λ (p : List ℕ). Contains p (label b)) (sym same) (face_within k l v b of_v in_v)))

  pub of_one : (u v : RationalPoint) (a b : Place) → IsPlaceOf S u a → IsPlaceOf S v b → Contains set (label a) → Contains set (label b) → IsOfOne a b → AreInOne arcs polygons u v
  of_one u v a b of_u of_v c d e =
      let (l, here) = numbered S table.arrangement arcs table.long table.along faces table.built label by set parts traced.parted (label a) c in
      let (m, there) = numbered S table.arrangement arcs table.long table.along faces table.built label by set parts traced.parted (label b) d in
      let (k, below, same) = polygon_of (number_of parts (label a)) l a (place_beside S u a of_u) here in (
        k,
        below,
        within_polygon k below u a of_u (subst (λ (p : List ℕ). Contains p (label a)) (sym same) here),
        within_polygon k below v b of_v (subst (λ (p : List ℕ). Contains p (label b)) (sym same) (subst (λ (i : ℕ). Contains (get_or parts i []) (label b)) (sym e) there)),
      )

pub polygons_are_apart : PolygonsAreApart
polygons_are_apart S arcs faces table set parts polygons traced =
    let (label, by) = each_table_has_labels S table.arrangement arcs table.along faces in
    apart S arcs faces table set parts polygons traced label by

pub polygons_hold_the_set : PolygonsHoldTheSet
polygons_hold_the_set S arcs faces table set parts polygons traced label by z a place =
    (held S arcs faces table set parts polygons traced label by z a place, in_set S arcs faces table set parts polygons traced label by z a place)

pub polygons_are_joined_points : PolygonsAreJoinedPoints
polygons_are_joined_points S arcs faces table set parts polygons traced label by u v a b of_u of_v c d =
    let labels : IsFaceLabelling S label = faces_are_classes S table.arrangement arcs table.long table.along table.free faces table.built label by in
    let out = outside_is_not S table.arrangement table.distinct arcs table.long table.along table.free faces table.built label by set traced.inner in
    let classes = are_classes S table.arrangement arcs table.long table.along faces table.built label by set parts traced.parted in
    let by_number = parts_are_joined S table.arrangement table.distinct label labels (has nat_eq set) out (number_of parts) classes u v a b of_u of_v (Contains_has set (label a) c) (Contains_has set (label b) d) in (
      λ one. by_number.0 (in_one S arcs faces table set parts polygons traced label by u v a b of_u of_v one),
      λ joined. of_one S arcs faces table set parts polygons traced label by u v a b of_u of_v c d (by_number.1 joined),
    )

pub polygons_hold_by_parity : PolygonsHoldByParity
polygons_hold_by_parity S arcs faces table set parts polygons traced k l z =
    let (label, by) = each_table_has_labels S table.arrangement arcs table.along faces in
    let (a, place) = place_exists S table.arrangement z in
    let part = get_or (bounded faces.places (length arcs) parts) k [] in
    let same = by_parity S arcs faces table set parts polygons traced label by k l z a place in (
      λ e. within_polygon S arcs faces table set parts polygons traced label by k l z a place (has_Contains part (label a) (sym same ∙ e)),
      λ w. same ∙ Contains_has part (label a) (face_within S arcs faces table set parts polygons traced label by k l z a place w),
    )

-- ---- in a snapped drawing

pub polygons_of_a_drawing : PolygonsOfADrawing
polygons_of_a_drawing d arcs long along whole faces built =
    let s = snapped_links_are_an_arrangement d in
    let S = links_of (snapped d) in
    let table : AreFacesOf S arcs faces = record { arrangement = s.0; distinct = s.1; long = long; along = along; free = whole_are_free (snapped d) arcs whole; built = built } in (
      table,
      λ set parts polygons traced p f over.
          let (label, by) = each_table_has_labels S s.0 arcs along faces in
          let (a, place) = place_exists S s.0 (at p) in
          let is : label a ≡ f =
          ∥∥₁_elim built.all_links (ℕ_set (label a) f) (λ all.
          let (b, at_p, is_f) = face_of_point S s.0 arcs long along faces all label by p f over in
          ap label (place_is_one S s.0 (at p) a b place at_p) ∙ is_f) in
          subst (λ (k : ℕ). Contains set k ↔ IsInSome arcs polygons (at p)) is (polygons_hold_the_set S arcs faces table set parts polygons traced label by (at p) a place),
    )
