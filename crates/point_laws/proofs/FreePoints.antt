-- A point on no link is inside just the sets that have its face.
use Rattle.std.proofs.Common.{◌≡◌, ◌⊎◌, ◌↔◌, inl, inr, sym, ap, ◌∙◌, subst, ℕ, ◌+◌, ◌<◌, arith, Bool, true, false, cond, List, [], ◌∷◌, length, All, Contains, None}
use Rattle.std.proofs.Math.Logic.{∥∥₁_elim}
use Rattle.std.proofs.Math.Nat.{ℕ_set}
use Rattle.plane_model.specs.Points.{GridPoint, RationalPoint, Segment, Path, at, is_before, reversed}
use Rattle.plane_model.specs.Arrangement.{IsArrangement, IsDistinct, IsEnd}
use Rattle.plane_model.specs.Drawing.{steps}
use Rattle.plane_model.specs.Sees.{IsOffLinks, SeesPoint}
use Rattle.plane_model.specs.Sides.{IsInside}
use Rattle.plane_model.specs.Snapped.{links_of, snapped}
use Rattle.plane_snapping.proofs.SnappedLinks.{snapped_links_are_an_arrangement, no_vertex_inside}
use Rattle.plane_parity.proofs.LinkOrder.{same_grid}
use Rattle.plane_faces.specs.Places.{Place, IsPlaceOf}
use Rattle.plane_faces.proofs.Order.{place_exists}
use Rattle.plane_faces.proofs.Sighted.{label_along_a_segment}
use Rattle.plane_faces.proofs.Sorting.{rotations_exist}
use Rattle.arc_table.specs.Along.{GoAlong}
use Rattle.arc_table.specs.Lookup.{HasVertex, IsArcAt}
use Rattle.face_walk.specs.Places.{FaceTable, IsBuiltOf, IsFaceOver}
use Rattle.face_laws.specs.Faces.{AreFreeInside, IsFaceOfPlace}
use Rattle.face_laws.proofs.ClassLemmas.{faces_are_classes}
use Rattle.face_laws.proofs.PointLemmas.{face_of_point, whole_are_free}
use Rattle.face_laws.proofs.StepLemmas.{IsStep, arc_of, begins_with, step_between, step_of_link, steps_counted}
use Rattle.line_ops.specs.Points.{IsNode}
use Rattle.face_sets.proofs.BoundaryLemmas.{has_Contains, Contains_has}
use Rattle.point_laws.specs.Sight.{PointsOf, FreePointsAreInside, FreePointsOfADrawing}
use Rattle.point_laws.proofs.SightLemmas.{sight_is_free, free_points_are_seen}

module _ (S : List Segment) (arr : IsArrangement S) (distinct : IsDistinct S) (arcs : List Path) (long : All (λ arc. 1 < length arc) arcs) (along : GoAlong S arcs) (free : AreFreeInside S arcs)
    (faces : FaceTable) (built : IsBuiltOf arcs faces) (label : Place → ℕ) (by : IsFaceOfPlace arcs faces label) where
  -- what sees the point has its face
  pub seen_face : (p : GridPoint) → IsOffLinks S (at p) → (f : ℕ) → IsFaceOver faces p f → (z : RationalPoint) → SeesPoint S p z → (a : Place) → IsPlaceOf S z a → label a ≡ f
  seen_face p off f over z sees a here =
      ∥∥₁_elim built.all_links (ℕ_set (label a) f)
      (λ all.
      let (b, at_p, is_f) = face_of_point S arr arcs long along faces all label by p f over in
      let agrees = (faces_are_classes S arr arcs long along free faces built label by).agrees in
      label_along_a_segment S arr distinct (rotations_exist S arr distinct) label agrees z (at p) (sight_is_free S p off z sees) a b here at_p ∙ is_f)

  pub inside_by_face : (set : List ℕ) (p : GridPoint) → IsOffLinks S (at p) → (f : ℕ) → IsFaceOver faces p f → IsInside S (PointsOf S label set) p ↔ Contains set f
  inside_by_face set p off f over = (
    λ h.
        let (z, sees, held) = h in
        let (off_links, placed) = held in
        let (a, here, has_label) = placed in
        subst (Contains set) (seen_face p off f over z sees a here) has_label,
    λ has_face.
        let (z, sees, off_links) = free_points_are_seen S arr p off in
        let (a, here) = place_exists S arr z in
        (z, sees, (off_links, (a, here, subst (Contains set) (sym (seen_face p off f over z sees a here)) has_face))),
  )

pub free_points_are_inside : FreePointsAreInside
free_points_are_inside S arr distinct arcs long along free faces built label by set p off f over = inside_by_face S arr distinct arcs long along free faces built label by set p off f over

-- ---- a vertex of a drawing that no arc has

-- both ends of a step of an arc are vertices of the arc
step_ends : (arcs : List Path) (n j : ℕ) (s : Segment) → IsStep arcs n j s → HasVertex arcs n s.start × HasVertex arcs n s.stop
step_ends arcs n j s h =
    let path = arc_of arcs n in
    let there = h.there in
    let some : 0 < length path = filled path there in
    let many = steps_counted path some in (
      (j, omega arith, ap (λ (t : Segment). t.start) (sym (step_between path j s s.start h.there) ∙ h.is)),
      (j + 1, omega arith, ap (λ (t : Segment). t.stop) (sym (step_between path j s s.stop h.there) ∙ h.is)),
    )
  where
    filled : (path : Path) → j < length (steps path) → 0 < length path
    filled [] l = absurd (omega arith)
    filled (q ∷ rest) l = omega arith

module _ (S : List Segment) (arr : IsArrangement S) (arcs : List Path) (long : All (λ arc. 1 < length arc) arcs) (along : GoAlong S arcs) (p : GridPoint) (none : IsArcAt arcs p None) where
  no_step : (n j : ℕ) (s : Segment) → IsStep arcs n j s → (s.start ≡ p) ⊎ (s.stop ≡ p) → ⊥
  no_step n j s h (inl e) = none n h.arc (subst (HasVertex arcs n) e (step_ends arcs n j s h).0)
  no_step n j s h (inr e) = none n h.arc (subst (HasVertex arcs n) e (step_ends arcs n j s h).1)

  link_not_there : (l : Segment) → Contains S l → IsEnd l (at p) → ⊥
  link_not_there l c ends =
      let (n, j, s, is, e) = step_of_link arcs S arr long along l c in
      no_step n j s is (either (is_before s.start s.stop) s (subst (λ (k : Segment). (k.start ≡ p) ⊎ (k.stop ≡ p)) (sym e) (elim ends [ inl h ↦ inl (sym (same_grid p l.start h)) | inr h ↦ inr (sym (same_grid p l.stop h)) ])))
    where
      either : (b : Bool) (s : Segment) → ((cond b s (reversed s)).start ≡ p) ⊎ ((cond b s (reversed s)).stop ≡ p) → (s.start ≡ p) ⊎ (s.stop ≡ p)
      either true s h = h
      either false s (inl e) = inr e
      either false s (inr e) = inl e

  none_leaves : IsNode arcs p → ⊥
  none_leaves node =
      let (a, leaves) = node in
      let (j, s, h) = begins_with S arr arcs long along a leaves.there in
      no_step a.arc j s h.step (either a.is_reversed s (ap (λ (t : Segment). t.start) (sym h.is) ∙ leaves.start))
    where
      either : (b : Bool) (s : Segment) → (cond b (reversed s) s).start ≡ p → (s.start ≡ p) ⊎ (s.stop ≡ p)
      either true s e = inr e
      either false s e = inl e

pub free_points_of_a_drawing : FreePointsOfADrawing
free_points_of_a_drawing d arcs long along whole faces built label by set p vertex none inside is =
    let s = snapped_links_are_an_arrangement d in
    let S = links_of (snapped d) in
    let off : IsOffLinks S (at p) = λ l c on. link_not_there S s.0 arcs long along p none l c (no_vertex_inside d l p c vertex on) in
    let (f, over, answered) = is.alone (none_leaves S s.0 arcs long along p none) none in
    let (seen, by_face) = inside_by_face S s.0 s.1 arcs long along (whole_are_free (snapped d) arcs whole) faces built label by set p off f over in (
      λ e. by_face (has_Contains set f (sym answered ∙ e)),
      λ h. answered ∙ Contains_has set f (seen h),
    )
