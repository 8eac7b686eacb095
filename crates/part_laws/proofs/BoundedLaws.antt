-- Each part of a set without the outer face has a boundary.
use Rattle.std.proofs.Common.{◌≡◌, ◌⊎◌, inl, inr, refl, sym, ap, ◌∙◌, subst, arith, ℕ, zero, suc, ◌+◌, ◌*◌, ◌<◌, Bool, true, false, not, ◌&&◌, cond, List, [], ◌∷◌, length, filter, get_or, nat_eq, nat_lt, All, Contains, Some}
use Rattle.std.specs.Prelude.{slice_get}
use Rattle.std.proofs.lemmas.Bool.{cases_lt, lt-ltb, false_from_ne_true}
use Rattle.std.proofs.lemmas.List.{get_or_default}
use Rattle.std.proofs.lemmas.List.Elements.{All-contains, Contains-get_or}
use Rattle.std.proofs.lemmas.Option.{slice_get-get_or}
use Rattle.lists.specs.Lists.{has}
use Rattle.lists.proofs.Members.{Contains-filter}
use Rattle.plane_model.specs.Points.{Segment, Path}
use Rattle.plane_model.specs.Arcs.{SignedArc, forward, backward}
use Rattle.plane_model.specs.Arrangement.{IsArrangement, IsDistinct}
use Rattle.plane_parity.proofs.Passing.{same_test}
use Rattle.plane_faces.specs.Labels.{IsFaceLabelling}
use Rattle.plane_faces.specs.Places.{Place, outside, left_side, right_side, IsBeside}
use Rattle.plane_faces.proofs.Connected.{connected}
use Rattle.plane_faces.proofs.FaceLaws.{among_agrees}
use Rattle.plane_faces.proofs.Sorting.{rotations_exist}
use Rattle.arc_table.specs.Along.{GoAlong}
use Rattle.arc_table.proofs.SignedArcs.{Contains-signed_below}
use Rattle.face_walk.specs.Places.{FaceTable, IsBuiltOf, face_left_of, signed_below}
use Rattle.face_walk.proofs.NumberingLemmas.{number_there}
use Rattle.face_sets.proofs.SetLemmas.{first_of}
use Rattle.face_laws.specs.Faces.{AreFreeInside, IsFaceOfPlace}
use Rattle.face_laws.proofs.ClassLemmas.{faces_are_classes}
use Rattle.face_laws.proofs.LabelLemmas.{each_table_has_labels}
use Rattle.face_sets.specs.Boundary.{IsOnBoundary, boundary, face_right_of, is_outward, other_way}
use Rattle.face_sets.specs.Joined.{AreParts}
use Rattle.face_sets.specs.Sets.{IsInnerFace, IsSetOf}
use Rattle.ring_trace.specs.Traced.{bounded}
use Rattle.face_sets.proofs.BoundaryLemmas.{back_again, has_Contains, Contains_has, same_or_other}
use Rattle.face_laws.proofs.ShownLemmas.{halves}
use Rattle.part_laws.specs.Parts.{PartsHaveBoundaries}
use Rattle.part_laws.proofs.LinkLemmas.{arc_of_link, link_of_arc}
use Rattle.part_laws.proofs.TracedLaws.{on_boundary}

-- a place other than the outside is left of an arc, or right of one
arc_of_place : (j : ℕ) → 0 < j → (n : ℕ) × ((2 * n + 1 ≡ j) ⊎ (2 * n + 2 ≡ j))
arc_of_place j l = elim (halves j) [ inl e ↦ absurd (omega arith) | inr r ↦ (r.0, elim r.1 [ inl e ↦ inl (sym e) | inr e ↦ inr (sym e) ]) ]

all_kept : {X : Type 0} (p : X → Bool) (xs : List X) → All (λ x. p x ≡ true) xs → filter p xs ≡ xs
all_kept p [] h = refl
all_kept p (x ∷ xs) h =
    ap (λ (b : Bool). cond b (x ∷ filter p xs) (filter p xs)) (h 0 x (omega arith))
    ∙ ap (λ (ys : List _). x ∷ ys) (all_kept p xs (λ k d l. h (suc k) d (omega arith)))

module _ (S : List Segment) (arr : IsArrangement S) (distinct : IsDistinct S) (arcs : List Path) (long : All (λ arc. 1 < length arc) arcs) (along : GoAlong S arcs) (free : AreFreeInside S arcs) (faces : FaceTable) (built : IsBuiltOf arcs faces)
    (label : Place → ℕ) (by : IsFaceOfPlace arcs faces label) where
  -- ---- faces and places

  place_left : (a : SignedArc) → a.arc < length arcs → (b : Place) × IsBeside S b × (label b ≡ face_left_of faces.places a)
  place_left a below =
      let (link, there, c, same, goes) = link_of_arc S arr arcs long along faces label by a.arc below in
      elim (same_or_other a c (sym same)) [
        | inl e ↦ (left_side link, there, goes.left ∙ sym (ap (face_left_of faces.places) e))
        | inr e ↦ (right_side link, there, goes.right ∙ sym (ap (face_left_of faces.places) e))
      ]

  -- a face of a place, other than the outer one, is that of a place beside a link
  place_of_face : (k : ℕ) → Contains faces.places k → (slice_get faces.places 0 ≡ Some k → ⊥) → (b : Place) × IsBeside S b × (label b ≡ k)
  place_of_face k (zero, l, e) out = absurd (out (slice_get-get_or faces.places 0 0 l ∙ ap (λ (m : ℕ). Some m) (get_or_default faces.places 0 0 k l ∙ e)))
  place_of_face k (suc j, l, e) out = go (arc_of_place (suc j) (omega arith))
    where
      go : (n : ℕ) × ((2 * n + 1 ≡ suc j) ⊎ (2 * n + 2 ≡ suc j)) → (b : Place) × IsBeside S b × (label b ≡ k)
      go (n, inl f) =
          let size = built.places_counted in
          let (b, beside, is) = place_left (forward n) (omega arith) in
          (b, beside, is ∙ ap (λ (i : ℕ). get_or faces.places i 0) f ∙ get_or_default faces.places (suc j) 0 k l ∙ e)
      go (n, inr f) =
          let size = built.places_counted in
          let (b, beside, is) = place_left (backward n) (omega arith) in
          (b, beside, is ∙ ap (λ (i : ℕ). get_or faces.places i 0) f ∙ get_or_default faces.places (suc j) 0 k l ∙ e)

  pub outside_is_not : (set : List ℕ) → IsSetOf faces set → has nat_eq set (label outside) ≡ false
  outside_is_not set inner =
      false_from_ne_true (has nat_eq set (label outside)) (λ e.
      let h : IsInnerFace faces (label outside) = All-contains (IsInnerFace faces) set (label outside) inner (has_Contains set (label outside) e) in
      h.not_outer (slice_get-get_or faces.places 0 0 (let m = built.places_counted in omega arith) ∙ ap (λ (k : ℕ). Some k) (sym by.outside_all)))

  -- ---- a part with no boundary

  module _ (part : List ℕ) (none : length (boundary faces.places (length arcs) part) ≡ 0) where
    not_bounding : (a : SignedArc) → a.arc < length arcs → has nat_eq part (face_left_of faces.places a) ≡ true → has nat_eq part (face_right_of faces.places a) ≡ false → ⊥
    not_bounding a below x y =
        let test : SignedArc → Bool = λ b. has nat_eq part (face_left_of faces.places b) && is_outward faces.places part b in
        let (i, l, e) = Contains-filter test (signed_below (length arcs)) a (Contains-signed_below (length arcs) a below) (λ i. x i && not (y i)) in
        omega arith

    not_crossed : (l : Segment) → Contains S l → has nat_eq part (label (left_side l)) ≡ has nat_eq part (label (right_side l))
    not_crossed l c =
        let (a, goes) = arc_of_link S arr arcs long along faces label by l c in
        let back : face_right_of faces.places (other_way a) ≡ face_left_of faces.places a = ap (face_left_of faces.places) (back_again a) in
        ap (has nat_eq part) goes.left
        ∙ same_test (has nat_eq part (face_left_of faces.places a)) (has nat_eq part (face_right_of faces.places a)) (not_bounding a goes.arc)
        (λ y x. not_bounding (other_way a) goes.arc x (ap (has nat_eq part) back ∙ y))
        ∙ ap (has nat_eq part) (sym goes.right)

    no_such_part : IsSetOf faces part → (b : Place) → IsBeside S b → Contains part (label b) → ⊥
    no_such_part inner b beside c =
        let labels : IsFaceLabelling S label = faces_are_classes S arr arcs long along free faces built label by in
        let one = connected S arr (rotations_exist S arr distinct) (λ place. has nat_eq part (label place)) (among_agrees S label labels.agrees (has nat_eq part)) not_crossed b beside in
        let bad : true ≡ false = sym (Contains_has part (label b) c) ∙ one ∙ outside_is_not part inner in
        absurd (cc)

  -- ---- the parts of a set

  module _ (set : List ℕ) (inner : IsSetOf faces set) (parts : List (List ℕ)) (are : AreParts faces set parts) where
    of_set : (n : ℕ) → n < length parts → (k : ℕ) → Contains (get_or parts n []) k → Contains set k
    of_set n l k c = All-contains (Contains set) (get_or parts n []) k (are.divided.faces n [] l).faces c

    inner_part : (n : ℕ) → n < length parts → IsSetOf faces (get_or parts n [])
    inner_part n l i d m = All-contains (IsInnerFace faces) set (get_or (get_or parts n []) i d) inner ((are.divided.faces n [] l).faces i d m)

    -- a part that has the face of a place has a boundary
    pub bounded_at : (n : ℕ) → n < length parts → (b : Place) → IsBeside S b → Contains (get_or parts n []) (label b) → 0 < length (boundary faces.places (length arcs) (get_or parts n []))
    bounded_at n l b beside c = elim (cases_lt 0 (length (boundary faces.places (length arcs) (get_or parts n [])))) [
      | inl more ↦ more
      | inr none ↦ absurd (no_such_part (get_or parts n []) (omega arith) (inner_part n l) b beside c)
    ]

  module _ (set : List ℕ) (inner : IsSetOf faces set) (parts : List (List ℕ)) (are : AreParts faces set parts) where
    has_boundary : (n : ℕ) → n < length parts → 0 < length (boundary faces.places (length arcs) (get_or parts n []))
    has_boundary n l =
        let (k, c) = first_of (get_or parts n []) (are.divided.some n l) in
        let in_set = of_set set inner parts are n l k c in
        let h : IsInnerFace faces k = All-contains (IsInnerFace faces) set k inner in_set in
        let (b, beside, is) = place_of_face k (number_there faces.count faces.places built.numbered k h.there) h.not_outer in
        bounded_at set inner parts are n l b beside (subst (λ (f : ℕ). Contains (get_or parts n []) f) (sym is) c)

    each_has_boundary : All (λ part. 0 < length (boundary faces.places (length arcs) part)) parts
    each_has_boundary n d l = subst (λ (part : List ℕ). 0 < length (boundary faces.places (length arcs) part)) (get_or_default parts n [] d l) (has_boundary n l)

    pub each_has_arc : All (λ part. (a : SignedArc) × IsOnBoundary faces part a) parts
    each_has_arc n d l =
        let part = get_or parts n d in
        let none : SignedArc = record { arc = 0; is_reversed = false } in
        let a = get_or (boundary faces.places (length arcs) part) 0 none in
        (a, on_boundary faces (length arcs) built.places_counted part a (Contains-get_or (boundary faces.places (length arcs) part) 0 none (each_has_boundary n d l)))

    pub all_bounded : bounded faces.places (length arcs) parts ≡ parts
    all_bounded = all_kept (λ (part : List ℕ). nat_lt 0 (length (boundary faces.places (length arcs) part))) parts (λ n d l. lt-ltb 0 _ (each_has_boundary n d l))

pub parts_have_boundaries : PartsHaveBoundaries
parts_have_boundaries S arcs faces table set inner parts are =
    let (label, by) = each_table_has_labels S table.arrangement arcs table.along faces in
    let all = all_bounded S table.arrangement table.distinct arcs table.long table.along table.free faces table.built label by set inner parts are in (
      each_has_arc S table.arrangement table.distinct arcs table.long table.along table.free faces table.built label by set inner parts are,
      all,
      λ polygons used. used.each ∙ ap (λ (ps : List (List ℕ)). length ps) all,
    )
