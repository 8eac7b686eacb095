-- What is true of the faces of the whole arcs of a snapped drawing.
use Rattle.std.proofs.Common.{◌≡◌, inl, inr, sym, ap, subst, ◌∙◌, arith, ℕ, ◌<◌, List, map, Contains}
use Rattle.std.proofs.lemmas.List.Elements.{All-contains}
use Rattle.lists.proofs.Members.{Contains-map}
use Rattle.plane_model.specs.Points.{Segment, Path}
use Rattle.plane_model.specs.Drawing.{Drawing, steps}
use Rattle.plane_model.specs.Arcs.{forward, backward}
use Rattle.plane_model.specs.Arrangement.{IsArrangement, IsDistinct}
use Rattle.plane_model.specs.Rotation.{Dart}
use Rattle.plane_model.specs.Snapped.{links_of, snapped}
use Rattle.plane_snapping.proofs.SnappedLinks.{snapped_links_are_an_arrangement}
use Rattle.plane_faces.specs.Around.{opposite}
use Rattle.plane_faces.specs.Labels.{IsFaceLabelling}
use Rattle.plane_faces.specs.Places.{Place, outside, left_of, IsBeside}
use Rattle.plane_faces.specs.Rings.{dart_of_step}
use Rattle.face_walk.specs.Places.{FaceTable, face_left_of, place_of}
use Rattle.face_laws.specs.Faces.{AreFreeInside}
use Rattle.face_laws.proofs.ClassLemmas.{faces_are_classes}
use Rattle.face_laws.proofs.DartLemmas.{one_of_two}
use Rattle.face_laws.proofs.PointLemmas.{whole_are_free}
use Rattle.face_laws.proofs.StepLemmas.{arc_of, step_of_link}
use Rattle.region_laws.specs.Followed.{IsWalked}

pub links_arranged : (d : Drawing) → IsArrangement (links_of (snapped d))
links_arranged d = (snapped_links_are_an_arrangement d).0

pub links_distinct : (d : Drawing) → IsDistinct (links_of (snapped d))
links_distinct d = (snapped_links_are_an_arrangement d).1

module _ (d : Drawing) (arcs : List Path) (faces : FaceTable) (label : Place → ℕ) (walked : IsWalked d arcs faces label) where
  abbrev S : List Segment
  S = links_of (snapped d)

  pub arcs_free : AreFreeInside (links_of (snapped d)) arcs
  arcs_free = whole_are_free (snapped d) arcs walked.table.whole

  pub labels_faces : IsFaceLabelling (links_of (snapped d)) label
  labels_faces = faces_are_classes S (links_arranged d) arcs walked.table.long walked.table.links arcs_free faces walked.built label walked.labelled

  -- each label is below the count of faces
  pub label_below : (a : Place) → IsBeside (links_of (snapped d)) a → label a < faces.count
  label_below outside h = subst (λ (f : ℕ). f < faces.count) (sym walked.labelled.outside_all) (walked.built.numbered.below 0 0 (let counted = walked.built.places_counted in omega arith))
  label_below (left_of e) c =
      let (n, j, s, h, same) = step_of_link arcs S (links_arranged d) walked.table.long walked.table.links e.link c in
      let darts : List Dart = map dart_of_step (steps (arc_of arcs n)) in
      let in_darts : Contains darts (dart_of_step s) = Contains-map dart_of_step (steps (arc_of arcs n)) s (j, h.there, h.is) in
      let counted = walked.built.places_counted in
      let there = h.arc in
      elim (one_of_two s e (sym same)) [
        | inl f ↦ subst (λ (g : ℕ). g < faces.count) (sym (ap (λ (k : Dart). label (left_of k)) f ∙ All-contains (λ (k : Dart). label (left_of k) ≡ face_left_of faces.places (forward n)) darts (dart_of_step s) (walked.labelled.left n h.arc) in_darts)) (walked.built.numbered.below (place_of (forward n)) 0 (omega arith))
        | inr f ↦ subst (λ (g : ℕ). g < faces.count) (sym (ap (λ (k : Dart). label (left_of k)) f ∙ All-contains (λ (k : Dart). label (left_of (opposite k)) ≡ face_left_of faces.places (backward n)) darts (dart_of_step s) (walked.labelled.right n h.arc) in_darts)) (walked.built.numbered.below (place_of (backward n)) 0 (omega arith))
      ]
