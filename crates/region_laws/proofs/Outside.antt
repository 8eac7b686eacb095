-- Points outside a region: which of them no closed runs of its boundary separate.
use Rattle.std.proofs.Common.{◌≡◌, inl, inr, refl, sym, ap, subst, ◌∙◌, ℕ, ◌<◌, Bool, true, false, not, List, [], ◌∷◌, All, Contains, length, get_or, nat_eq}
use Rattle.std.specs.Prelude.{◌↔◌}
use Rattle.std.specs.List.{range_with_len}
use Rattle.std.proofs.lemmas.Bool.{cases_Bool, false_from_ne_true, both_ways}
use Rattle.std.proofs.lemmas.List.Elements.{All-contains, All-contains_itself, All-cons, All-head, All-nil, All-tail, All-weaker}
use Rattle.std.proofs.lemmas.List.Sorted.{All-permutation, IsPermutation-sym}
use Rattle.lists.specs.Lists.{has}
use Rattle.lists.proofs.Members.{Contains-filter, filter-Contains}
use Rattle.plane_model.specs.Points.{RationalPoint, Segment, Path}
use Rattle.plane_model.specs.Arrangement.{IsArrangement, IsDistinct}
use Rattle.plane_model.specs.Joined.{AreBoundaryLinks, AreJoinedIn, IsBoundaryLink, IsClosedRun}
use Rattle.plane_model.specs.Parity.{is_below, links_of_paths, odd, xor}
use Rattle.plane_model.specs.Sees.{IsOffLinks}
use Rattle.plane_model.specs.Sides.{Points}
use Rattle.plane_parity.proofs.SnappedRings.{closed_runs_are_even_lists}
use Rattle.plane_faces.specs.Classes.{PointsWhere}
use Rattle.plane_faces.specs.Labels.{IsFaceLabelling, IsPartLabelling, among}
use Rattle.plane_faces.specs.Places.{Place, outside, left_side, right_side, AgreesWherePlacesMeet, IsBeside, IsPlaceOf, border}
use Rattle.plane_faces.specs.Rings.{IsRing, links_of_path}
use Rattle.plane_faces.proofs.Classes.{borders_are_boundaries}
use Rattle.plane_faces.proofs.Connected.{border_parity}
use Rattle.plane_faces.proofs.FaceLaws.{among_agrees}
use Rattle.plane_faces.proofs.Laws.{border_rings, parts_not_separated}
use Rattle.plane_faces.proofs.Lists.{all_left, all_right, odd_count-permutation}
use Rattle.plane_faces.proofs.Parts.{border_in, passes_filter}
use Rattle.plane_faces.proofs.Runs.{links_are, links_of_runs, ring_closed}
use Rattle.plane_faces.proofs.Sorting.{rotations_exist}
use Rattle.plane_faces.proofs.Tables.{place_is_one}
use Rattle.arc_table.specs.Along.{GoAlong}
use Rattle.face_walk.specs.Places.{FaceTable, IsBuiltOf}
use Rattle.face_sets.proofs.GapLemmas.{in_range}
use Rattle.face_laws.specs.Faces.{IsFaceOfPlace}
use Rattle.face_sets.specs.Gaps.{outside_of}
use Rattle.face_sets.specs.Joined.{AreParts}
use Rattle.face_sets.proofs.BoundaryLemmas.{Contains_has, has_Contains}
use Rattle.part_laws.specs.Parts.{number_of}
use Rattle.part_laws.proofs.ClassLemmas.{are_classes, numbered}
use Rattle.region_laws.proofs.Sets.{kept_out, out_kept}
use Rattle.region_laws.proofs.Sides.{left_belongs, right_belongs, same_boundary}

-- rings along links are closed runs of them
runs_of : (T : List Segment) (rings : List Path) → All IsRing rings → All (Contains T) (links_of_runs rings) → All (IsClosedRun T) rings
runs_of T [] are within = All-nil (IsClosedRun T)
runs_of T (ring ∷ rings) are within = All-cons (IsClosedRun T) ring rings
    (record { closed = ring_closed ring (All-head IsRing ring rings are); along_links = all_left (Contains T) (links_of_path ring) (links_of_runs rings) within })
    (runs_of T rings (All-tail IsRing ring rings are) (all_right (Contains T) (links_of_path ring) (links_of_runs rings) within))

module _ (S : List Segment) (arr : IsArrangement S) (distinct : IsDistinct S) (arcs : List Path) (long : All (λ arc. 1 < length arc) arcs) (along : GoAlong S arcs) (faces : FaceTable) (built : IsBuiltOf arcs faces)
    (label : Place → ℕ) (by : IsFaceOfPlace arcs faces label) (labelling : IsFaceLabelling S label) (label_below : (a : Place) → IsBeside S a → label a < faces.count)
    (set : List ℕ) (R : Points) (follows : (z : RationalPoint) → IsOffLinks S z → (a : Place) → IsPlaceOf S z a → R z ↔ Contains set (label a))
    (parts : List (List ℕ)) (are : AreParts faces (outside_of faces set) parts) where
  abbrev out : List ℕ
  out = outside_of faces set

  abbrev part : ℕ → List ℕ
  part k = get_or parts k []

  -- ---- faces outside the set

  pub is_out : (a : Place) → IsBeside S a → (Contains set (label a) → ⊥) → Contains out (label a)
  is_out a beside apart =
      Contains-filter (λ (k : ℕ). not (has nat_eq set k)) (range_with_len 0 faces.count) (label a) (in_range faces.count (label a) (label_below a beside)) (kept_out set (label a) apart)

  pub out_is_not : (k : ℕ) → Contains out k → Contains set k → ⊥
  out_is_not k c = out_kept set k (filter-Contains (λ (k : ℕ). not (has nat_eq set k)) (range_with_len 0 faces.count) k c).1

  pub of_out : (k f : ℕ) → k < length parts → Contains (part k) f → Contains out f
  of_out k f l c = All-contains (Contains out) (part k) f (are.divided.faces k [] l).faces c

  pub number_is : (k f : ℕ) → k < length parts → Contains (part k) f → number_of parts f ≡ k
  number_is k f l c =
      let (m, there) = numbered S arr arcs long along faces built label by out parts are f (of_out k f l c) in
      are.divided.once (number_of parts f) k f m l there c

  by_number : (k f : ℕ) → Contains out f → number_of parts f ≡ k → Contains (part k) f
  by_number k f c e = subst (λ (i : ℕ). Contains (part i) f) e (numbered S arr arcs long along faces built label by out parts are f c).1

  classes : IsPartLabelling S label (has nat_eq out) (number_of parts)
  classes = are_classes S arr arcs long along faces built label by out parts are

  -- of a link with both sides outside, both are of one part
  pub left_to_right : (k : ℕ) (l : Segment) → k < length parts → Contains S l → Contains (part k) (label (left_side l)) → (Contains set (label (right_side l)) → ⊥) → Contains (part k) (label (right_side l))
  left_to_right k l below c left apart =
      let right = is_out (right_side l) c apart in
      by_number k (label (right_side l)) right
      (sym (classes.links l c (Contains_has out (label (left_side l)) (of_out k (label (left_side l)) below left), Contains_has out (label (right_side l)) right)) ∙ number_is k (label (left_side l)) below left)

  pub right_to_left : (k : ℕ) (l : Segment) → k < length parts → Contains S l → Contains (part k) (label (right_side l)) → (Contains set (label (left_side l)) → ⊥) → Contains (part k) (label (left_side l))
  right_to_left k l below c right apart =
      let left = is_out (left_side l) c apart in
      by_number k (label (left_side l)) left
      (classes.links l c (Contains_has out (label (left_side l)) left, Contains_has out (label (right_side l)) (of_out k (label (right_side l)) below right)) ∙ number_is k (label (right_side l)) below right)

  -- ---- points of one part of what is outside are joined

  inside_one : (a : Place) → Contains set (label a) → has nat_eq out (label a) ≡ false
  inside_one a c = false_from_ne_true (has nat_eq out (label a)) (λ e. out_is_not (label a) (has_Contains out (label a) e) c)

  outside_one : (a : Place) → IsBeside S a → (Contains set (label a) → ⊥) → has nat_eq out (label a) ≡ true
  outside_one a beside apart = Contains_has out (label a) (is_out a beside apart)

  crosses : (l : Segment) → Contains S l → IsBoundaryLink S R l → xor (has nat_eq out (label (left_side l))) (has nat_eq out (label (right_side l))) ≡ true
  crosses l c (inl h) =
      let left = inside_one (left_side l) ((left_belongs S arr distinct label labelling set R follows l c).0 h.0) in
      let right = outside_one (right_side l) c (λ d. h.1 ((right_belongs S arr distinct label labelling set R follows l c).1 d)) in
      λ i. xor (left i) (right i)
  crosses l c (inr h) =
      let left = outside_one (left_side l) c (λ d. h.1 ((left_belongs S arr distinct label labelling set R follows l c).1 d)) in
      let right = inside_one (right_side l) ((right_belongs S arr distinct label labelling set R follows l c).0 h.0) in
      λ i. xor (left i) (right i)

  pub one_part_joined : (k : ℕ) → k < length parts → (u v : RationalPoint) (a b : Place) → IsPlaceOf S u a → IsPlaceOf S v b → Contains (part k) (label a) → Contains (part k) (label b) → AreJoinedIn S R u v
  one_part_joined k l u v a b at_u at_v in_u in_v boundary bounds runs closed =
      let held : Place → Bool = among label (has nat_eq out) in
      let differ : Segment → Bool = λ m. xor (held (left_side m)) (held (right_side m)) in
      let even = closed_runs_are_even_lists boundary runs closed in
      let within : All (Contains (border held S)) (links_of_paths runs) =
      All-weaker (Contains boundary) (Contains (border held S))
      (λ m c. let (there, bounding) = All-contains (λ n. Contains S n × IsBoundaryLink S R n) boundary m bounds.links c in Contains-filter differ S m there (crosses m there bounding))
      (links_of_paths runs) even.within in
      parts_not_separated S arr label labelling (has nat_eq out) (number_of parts) classes (links_of_paths runs) within even.even u v a b at_u at_v
      (Contains_has out (label a) (of_out k (label a) l in_u)) (Contains_has out (label b) (of_out k (label b) l in_v))
      (number_is k (label a) l in_u ∙ sym (number_is k (label b) l in_v))

  -- ---- and points that are joined are of one part, where it hasn't the outer face

  module _ (k : ℕ) (l : k < length parts) (shut : has nat_eq (part k) (label outside) ≡ false) where
    abbrev here : Place → Bool
    here a = has nat_eq (part k) (label a)

    abbrev held : Place → Bool
    held a = has nat_eq set (label a)

    here_agrees : AgreesWherePlacesMeet S here
    here_agrees = among_agrees S label labelling.agrees (has nat_eq (part k))

    not_both : (a : Place) → here a ≡ true → held a ≡ false
    not_both a e = false_from_ne_true (held a) (λ f. out_is_not (label a) (of_out k (label a) l (has_Contains (part k) (label a) e)) (has_Contains set (label a) f))

    off_set : (a : Place) → held a ≡ false → Contains set (label a) → ⊥
    off_set a e c = let f : true ≡ false = sym (Contains_has set (label a) c) ∙ e in absurd (cc)

    -- across a link of the part's border is the set
    beyond : (m : Segment) → Contains S m → xor (here (left_side m)) (here (right_side m)) ≡ true → xor (held (left_side m)) (held (right_side m)) ≡ true
    beyond m c = go (here (left_side m)) refl (here (right_side m)) refl
      where
        right_held : here (left_side m) ≡ true → here (right_side m) ≡ false → held (right_side m) ≡ true
        right_held e f = elim (cases_Bool (held (right_side m))) [
          | inl yes_held ↦ yes_held
          | inr not_held ↦ absurd (both_ways (here (right_side m)) f (Contains_has (part k) (label (right_side m)) (left_to_right k m l c (has_Contains (part k) (label (left_side m)) e) (off_set (right_side m) not_held))))
        ]

        left_held : here (left_side m) ≡ false → here (right_side m) ≡ true → held (left_side m) ≡ true
        left_held e f = elim (cases_Bool (held (left_side m))) [
          | inl yes_held ↦ yes_held
          | inr not_held ↦ absurd (both_ways (here (left_side m)) e (Contains_has (part k) (label (left_side m)) (right_to_left k m l c (has_Contains (part k) (label (right_side m)) f) (off_set (left_side m) not_held))))
        ]

        go : (x : Bool) → here (left_side m) ≡ x → (y : Bool) → here (right_side m) ≡ y → xor x y ≡ true → xor (held (left_side m)) (held (right_side m)) ≡ true
        go true e true f h = let g : false ≡ true = h in absurd (cc)
        go true e false f h =
            let left = not_both (left_side m) e in
            let right = right_held e f in
            λ i. xor (left i) (right i)
        go false e true f h =
            let left = left_held e f in
            let right = not_both (right_side m) f in
            λ i. xor (left i) (right i)
        go false e false f h = let g : false ≡ true = h in absurd (cc)

    boundary_there : AreBoundaryLinks S R (border held S)
    boundary_there =
        let P : Points = PointsWhere S held in
        let p_follows : (z : RationalPoint) → IsOffLinks S z → (c : Place) → IsPlaceOf S z c → P z ↔ Contains set (label c) = (λ z off c at_c. (
          λ (e, at_e, is). subst (λ (x : Place). Contains set (label x)) (place_is_one S arr z e c at_e at_c) (has_Contains set (label e) is),
          λ there. (c, at_c, Contains_has set (label c) there),
        )) in
        same_boundary S arr distinct label labelling set P R p_follows follows (border held S) (borders_are_boundaries S arr distinct held (among_agrees S label labelling.agrees (has nat_eq set)))

    pub kept_in : (u v : RationalPoint) (a b : Place) → IsPlaceOf S u a → IsPlaceOf S v b → Contains (part k) (label a) → AreJoinedIn S R u v → Contains (part k) (label b)
    kept_in u v a b at_u at_v in_u joined =
        let B : List Segment = border here S in
        let T : List Segment = border held S in
        let (rings, are_rings, starts, moved, lefts, darts) = border_rings S arr distinct here here_agrees in
        let within : All (Contains T) B =
        All-weaker (Contains B) (Contains T)
        (λ m c. let there = All-contains (Contains S) B m (border_in S here) c in Contains-filter (λ n. xor (held (left_side n)) (held (right_side n))) S m there (beyond m there (passes_filter (λ n. xor (here (left_side n)) (here (right_side n))) S m c)))
        B (All-contains_itself B) in
        let closed : All (IsClosedRun T) rings = runs_of T rings are_rings (All-permutation (Contains T) B (links_of_runs rings) (IsPermutation-sym (links_of_runs rings) B moved) within) in
        let same : odd (links_of_paths rings) u ≡ odd (links_of_paths rings) v = joined T boundary_there rings closed in
        let parity : (z : RationalPoint) (c : Place) → IsPlaceOf S z c → odd (links_of_paths rings) z ≡ here c =
        (λ z c at_c. ap (λ (ls : List Segment). odd ls z) (sym (links_are rings)) ∙ odd_count-permutation (is_below z) (links_of_runs rings) B moved ∙ border_parity S arr distinct (rotations_exist S arr distinct) here here_agrees shut z c at_c) in
        has_Contains (part k) (label b) (sym (parity v b at_v) ∙ sym same ∙ parity u a at_u ∙ Contains_has (part k) (label a) in_u)
