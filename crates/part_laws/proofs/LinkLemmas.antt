-- The sides of links, and the faces left and right of signed arcs.
use Rattle.std.proofs.Common.{◌≡◌, inl, inr, refl, sym, ap, ◌∙◌, arith, ℕ, ◌<◌, List, [], length, get_or, All, Contains, pos}
use Rattle.std.proofs.lemmas.List.{get_or-map, length-map}
use Rattle.plane_model.specs.Points.{Segment, Path, link_between}
use Rattle.plane_model.specs.Drawing.{steps}
use Rattle.plane_model.specs.Arcs.{SignedArc, forward, backward}
use Rattle.plane_model.specs.Arrangement.{IsArrangement}
use Rattle.plane_model.specs.Rotation.{Dart}
use Rattle.plane_faces.specs.Around.{forward_dart, opposite}
use Rattle.plane_faces.specs.Places.{Place, left_of, left_side, right_side}
use Rattle.plane_faces.specs.Rings.{dart_of_step}
use Rattle.arc_table.specs.Along.{GoAlong}
use Rattle.face_walk.specs.Places.{FaceTable, face_left_of}
use Rattle.face_laws.specs.Faces.{IsFaceOfPlace}
use Rattle.face_laws.proofs.DartLemmas.{one_of_two, twice_opposite}
use Rattle.face_laws.proofs.StepLemmas.{IsStep, arc_of, step_at, step_on, step_of_link, steps_counted}
use Rattle.face_sets.specs.Boundary.{other_way}

module _ (S : List Segment) (arr : IsArrangement S) (arcs : List Path) (long : All (λ arc. 1 < length arc) arcs) (along : GoAlong S arcs) (faces : FaceTable) (label : Place → ℕ) (by : IsFaceOfPlace arcs faces label) where
  -- left of the dart of a step is the face left of the arc, and right of it that right of the arc
  pub left_at : (n j : ℕ) (s : Segment) → IsStep arcs n j s → label (left_of (dart_of_step s)) ≡ face_left_of faces.places (forward n)
  left_at n j s h =
      let xs = steps (arc_of arcs n) in
      let size = length-map xs dart_of_step in
      let there = h.there in
      ap (λ (d : Dart). label (left_of d)) (sym (get_or-map dart_of_step xs j s (dart_of_step s) h.there ∙ ap dart_of_step h.is)) ∙ by.left n h.arc j (dart_of_step s) (omega arith)

  pub right_at : (n j : ℕ) (s : Segment) → IsStep arcs n j s → label (left_of (opposite (dart_of_step s))) ≡ face_left_of faces.places (backward n)
  right_at n j s h =
      let xs = steps (arc_of arcs n) in
      let size = length-map xs dart_of_step in
      let there = h.there in
      ap (λ (d : Dart). label (left_of (opposite d))) (sym (get_or-map dart_of_step xs j s (dart_of_step s) h.there ∙ ap dart_of_step h.is)) ∙ by.right n h.arc j (dart_of_step s) (omega arith)

  -- a signed arc goes along the link with its left side on the left
  pub record GoesAlong (a : SignedArc) (l : Segment) : Type 0 where
    pub arc : a.arc < length arcs
    pub left : label (left_side l) ≡ face_left_of faces.places a
    pub right : label (right_side l) ≡ face_left_of faces.places (other_way a)

  along_step : (n j : ℕ) (s l : Segment) → IsStep arcs n j s → link_between s ≡ l → (a : SignedArc) × (a.arc ≡ n) × GoesAlong a l
  along_step n j s l h e = elim (one_of_two s (forward_dart l) (sym e)) [
    | inl f ↦ (
      forward n,
      refl,
      record {
        arc = h.arc;
        left = ap (λ (d : Dart). label (left_of d)) f ∙ left_at n j s h;
        right = ap (λ (d : Dart). label (left_of (opposite d))) f ∙ right_at n j s h;
      },
    )
    | inr f ↦ (
      backward n,
      refl,
      record {
        arc = h.arc;
        left = ap (λ (d : Dart). label (left_of d)) f ∙ right_at n j s h;
        right = ap (λ (d : Dart). label (left_of (opposite d))) f ∙ ap (λ (d : Dart). label (left_of d)) (twice_opposite (dart_of_step s)) ∙ left_at n j s h;
      },
    )
  ]

  -- along each link goes a signed arc
  pub arc_of_link : (l : Segment) → Contains S l → (a : SignedArc) × GoesAlong a l
  arc_of_link l c =
      let (n, j, s, h, e) = step_of_link arcs S arr long along l c in
      let (a, same, goes) = along_step n j s l h e in
      (a, goes)

  -- and each arc, in one direction or the other, along a link
  pub link_of_arc : (n : ℕ) → n < length arcs → (l : Segment) × Contains S l × (a : SignedArc) × (a.arc ≡ n) × GoesAlong a l
  link_of_arc n below =
      let longer : 1 < length (arc_of arcs n) = long n [] below in
      let many = steps_counted (arc_of arcs n) (omega arith) in
      let none : Segment = record { start = record { x = pos 0; y = pos 0 }; stop = record { x = pos 0; y = pos 0 } } in
      let s = get_or (steps (arc_of arcs n)) 0 none in
      let h = step_at arcs n 0 none below (omega arith) in
      let (a, same, goes) = along_step n 0 s (link_between s) h refl in
      (link_between s, step_on arcs S arr long along n 0 s h, a, same, goes)
