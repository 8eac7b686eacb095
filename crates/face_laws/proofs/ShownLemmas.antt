-- The faces that points show are the classes of the plane.
use Rattle.std.proofs.Common.{◌≡◌, ◌⊎◌, inl, inr, refl, sym, ap, subst, ◌∙◌, arith, ℕ, zero, suc, ◌+◌, ◌*◌, ◌<◌, Bool, true, false, List, All, Contains, length, get_or}
use Rattle.std.proofs.Math.Logic.{∥∥₁_elim}
use Rattle.std.proofs.Math.Nat.{ℕ_set}
use Rattle.std.proofs.Math.Bool.{Bool-set}
use Rattle.std.proofs.lemmas.List.{get_or_default}
use Rattle.plane_model.specs.Points.{RationalPoint, Segment, Path}
use Rattle.plane_model.specs.Arcs.{forward, backward}
use Rattle.plane_model.specs.Arrangement.{IsArrangement, IsDistinct}
use Rattle.plane_model.specs.Parity.{odd, links_of_paths}
use Rattle.plane_model.specs.Rotation.{Dart}
use Rattle.plane_model.specs.Snapped.{links_of, snapped}
use Rattle.plane_snapping.proofs.SnappedLinks.{snapped_links_are_an_arrangement}
use Rattle.plane_faces.specs.Labels.{IsFaceLabelling}
use Rattle.plane_faces.specs.Places.{Place, outside, left_of, IsPlaceOf}
use Rattle.plane_faces.proofs.Classes.{labels_are_faces}
use Rattle.plane_faces.proofs.Order.{place_exists}
use Rattle.plane_faces.proofs.Sighted.{far_left, label_from_left, label_from_right}
use Rattle.plane_faces.proofs.Sorting.{rotations_exist}
use Rattle.arc_table.specs.Along.{GoAlong}
use Rattle.face_walk.specs.Places.{FaceTable, face_left_of}
use Rattle.face_walk.specs.Rays.{AreLinksOf}
use Rattle.face_walk.proofs.NumberingLemmas.{number_there}
use Rattle.face_laws.specs.Faces.{FacesHaveArcs, FacesOfADrawing, IsFaceOfPlace, SeesSide, SeesFace, ShowsFace, directed_as}
use Rattle.face_laws.proofs.ClassLemmas.{faces_are_classes}
use Rattle.face_laws.proofs.LabelLemmas.{each_table_has_labels}
use Rattle.face_laws.proofs.PointLemmas.{face_of_point, whole_are_free}
use Rattle.face_laws.proofs.SideLemmas.{dart_there, label_there}

module _ (S : List Segment) (arr : IsArrangement S) (distinct : IsDistinct S) (arcs : List Path) (long : All (λ arc. 1 < length arc) arcs) (along : GoAlong S arcs) (faces : FaceTable)
    (label : Place → ℕ) (by : IsFaceOfPlace arcs faces label) (labelling : IsFaceLabelling S label) where
  -- the label of a point that sees a link
  in_sight : (z : RationalPoint) (a : Place) → IsPlaceOf S z a → (b : Bool) (l : Segment) → Contains S l → SeesSide S b l z → label a ≡ label (left_of (record { link = l; forward = b }))
  in_sight z a at_z true l c sees = label_from_left S arr distinct (rotations_exist S arr distinct) label labelling.agrees l c z sees a at_z
  in_sight z a at_z false l c sees = label_from_right S arr distinct (rotations_exist S arr distinct) label labelling.agrees l c z sees a at_z

  place_seen : (z : RationalPoint) (f : ℕ) → SeesFace S arcs faces z f → (a : Place) × IsPlaceOf S z a × (label a ≡ f)
  place_seen z f seen =
      let (a, at_z) = place_exists S arr z in
      let (j, below, is) = seen.of_arc in
      let side : Dart = directed_as seen.along seen.dart in
      let on : Contains S side.link = subst (λ (c : Dart). Contains S (directed_as seen.along c).link) is (dart_there S arr arcs long along faces label by seen.along.arc seen.there j seen.dart below seen.along.is_reversed) in
      let beside : label (left_of side) ≡ face_left_of faces.places seen.along =
      ap (λ (c : Dart). label (left_of (directed_as seen.along c))) (sym is) ∙ label_there S arr arcs long along faces label by seen.along.arc seen.there j seen.dart below seen.along.is_reversed in
      (a, at_z, in_sight z a at_z side.forward side.link on seen.sees ∙ beside ∙ seen.face)

  pub place_shown : AreLinksOf arcs faces.links → (z : RationalPoint) (f : ℕ) → ShowsFace S arcs faces z f → (a : Place) × IsPlaceOf S z a × (label a ≡ f)
  place_shown all z f (inl seen) = place_seen z f seen
  place_shown all z f (inr (inl (p, is, over))) = subst (λ (q : RationalPoint). (a : Place) × IsPlaceOf S q a × (label a ≡ f)) is (face_of_point S arr arcs long along faces all label by p f over)
  place_shown all z f (inr (inr (left, is))) = (outside, far_left S z left, by.outside_all ∙ is)

pub faces_of_a_drawing : FacesOfADrawing
faces_of_a_drawing d arcs long along whole faces built u v f g shows_f shows_g =
    let s = snapped_links_are_an_arrangement d in
    let S : List Segment = links_of (snapped d) in
    let (label, by) = each_table_has_labels S s.0 arcs along faces in
    let labelling = faces_are_classes S s.0 arcs long along (whole_are_free (snapped d) arcs whole) faces built label by in (
      λ e runs closed.
          ∥∥₁_elim built.all_links (Bool-set (odd (links_of_paths runs) u) (odd (links_of_paths runs) v))
          (λ all.
          let (a, at_u, is_f) = place_shown S s.0 s.1 arcs long along faces label by labelling all u f shows_f in
          let (b, at_v, is_g) = place_shown S s.0 s.1 arcs long along faces label by labelling all v g shows_g in
          (labels_are_faces S s.0 s.1 label labelling u v a b at_u at_v).0 (is_f ∙ e ∙ sym is_g) runs closed),
      λ one.
          ∥∥₁_elim built.all_links (ℕ_set f g)
          (λ all.
          let (a, at_u, is_f) = place_shown S s.0 s.1 arcs long along faces label by labelling all u f shows_f in
          let (b, at_v, is_g) = place_shown S s.0 s.1 arcs long along faces label by labelling all v g shows_g in
          sym is_f ∙ (labels_are_faces S s.0 s.1 label labelling u v a b at_u at_v).1 one ∙ is_g),
    )

-- ---- no number is left out

-- a place is the outside, or left of an arc, or right of one
pub halves : (k : ℕ) → (k ≡ 0) ⊎ ((n : ℕ) × ((k ≡ 2 * n + 1) ⊎ (k ≡ 2 * n + 2)))
halves zero = inl refl
halves (suc zero) = inr (0, inl refl)
halves (suc (suc k)) = elim (halves k) [
  | inl e ↦ inr (0, inr (omega arith))
  | inr r ↦ inr (suc r.0, elim r.1 [ inl e ↦ inl (omega arith) | inr e ↦ inr (omega arith) ])
]

pub faces_have_arcs : FacesHaveArcs
faces_have_arcs arcs faces built f below =
    let (k, there, is) = number_there faces.count faces.places built.numbered f below in
    let counted = built.places_counted in
    let at_k : get_or faces.places k 0 ≡ f = get_or_default faces.places k 0 f there ∙ is in
    elim (halves k) [
      | inl e ↦ inl (sym at_k ∙ ap (λ (q : ℕ). get_or faces.places q 0) e)
      | inr (n, inl e) ↦ inr (forward n, omega arith, ap (λ (q : ℕ). get_or faces.places q 0) (sym e) ∙ at_k)
      | inr (n, inr e) ↦ inr (backward n, omega arith, ap (λ (q : ℕ). get_or faces.places q 0) (sym e) ∙ at_k)
    ]
