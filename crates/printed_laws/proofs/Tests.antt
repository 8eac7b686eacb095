-- Right answers on the sides of links are a test of places, which tells the points of a region.
use Rattle.std.proofs.Common.{◌≡◌, refl, sym, ◌∙◌, ℕ, Bool, true, false, cond, List, Contains}
use Rattle.std.specs.Prelude.{◌↔◌}
use Rattle.std.specs.Cmp.{both_ways}
use Rattle.plane_model.specs.Points.{RationalPoint, Segment, Path, at}
use Rattle.plane_model.specs.Drawing.{Drawing}
use Rattle.plane_model.specs.Snapped.{links_of, snapped}
use Rattle.plane_model.specs.SnappedRings.{HasClosedRings}
use Rattle.plane_parity.proofs.Visible.{seen_from_left, seen_from_right}
use Rattle.plane_faces.specs.Around.{opposite}
use Rattle.plane_faces.specs.Labels.{IsFaceLabelling}
use Rattle.plane_faces.specs.Places.{Place, outside, left_of, AgreesWherePlacesMeet, IsBeside, IsPlaceOf, left_side, right_side}
use Rattle.plane_faces.proofs.Classes.{labels_are_faces}
use Rattle.plane_faces.proofs.FaceLaws.{place_beside}
use Rattle.plane_faces.proofs.Joining.{face_labelling}
use Rattle.plane_faces.proofs.Order.{place_exists}
use Rattle.plane_faces.proofs.Sighted.{label_from_left, label_from_right}
use Rattle.plane_faces.proofs.Sorting.{rotations_exist}
use Rattle.region_model.specs.Region.{Region, Has}
use Rattle.region_model.specs.Answers.{AreSides}
use Rattle.region_laws.proofs.FarLeft.{exists_far_left, left_is_outside}
use Rattle.region_laws.proofs.Walked.{links_arranged, links_distinct}
use Rattle.printed_laws.proofs.Constant.{has_face}
use Rattle.printed_laws.proofs.Outside.{not_outside}

-- the answers of the sides, at places
abbrev pub test_of : (Segment → Bool) → (Segment → Bool) → Place → Bool
test_of left right outside = false
test_of left right (left_of e) = cond e.forward (left e.link) (right e.link)

module _ (d : Drawing) (closed : HasClosedRings d) (arcs : List Path) (r : Region) (left right : Segment → Bool) (sides : AreSides (links_of (snapped d)) (Has (snapped d) arcs r) left right) where
  abbrev S : List Segment
  S = links_of (snapped d)

  abbrev held : RationalPoint → Type 0
  held z = Has (snapped d) arcs r z

  label : Place → ℕ
  label = (face_labelling S (links_arranged d) (links_distinct d)).0

  labelling : IsFaceLabelling (links_of (snapped d)) label
  unfolding label
  labelling = (face_labelling S (links_arranged d) (links_distinct d)).1

  one_has : (u v : RationalPoint) (a b : Place) → IsPlaceOf S u a → IsPlaceOf S v b → label a ≡ label b → held u → held v
  one_has u v a b at_u at_v e h = has_face d closed arcs r u v ((labels_are_faces S (links_arranged d) (links_distinct d) label labelling u v a b at_u at_v).0 e) h

  -- a point of the face of a place, which the region has just if the test is passed
  record IsTold (a : Place) : Type 0 where
    point : RationalPoint
    place : Place
    here : IsPlaceOf (links_of (snapped d)) point place
    same : label place ≡ label a
    told : (test_of left right a ≡ true) ↔ Has (snapped d) arcs r point

  told_left : (l : Segment) → Contains S l → IsTold (left_side l)
  told_left l c =
      let (z, sees) = seen_from_left S (links_arranged d) l c in
      let (a, at_z) = place_exists S (links_arranged d) z in
      let rotations = rotations_exist S (links_arranged d) (links_distinct d) in
      let e = label_from_left S (links_arranged d) (links_distinct d) rotations label labelling.agrees l c z sees a at_z in
      record {
        point = z;
        place = a;
        here = at_z;
        same = e;
        told = (
          λ yes.
              (let (w, w_sees, has) = (sides.left_side l c).0 yes in
              let (b, at_w) = place_exists S (links_arranged d) w in
              one_has w z b a at_w at_z (label_from_left S (links_arranged d) (links_distinct d) rotations label labelling.agrees l c w w_sees b at_w ∙ sym e) has),
          λ has. (sides.left_side l c).1 (z, sees, has),
        );
      }

  told_right : (l : Segment) → Contains S l → IsTold (right_side l)
  told_right l c =
      let (z, sees) = seen_from_right S (links_arranged d) l c in
      let (a, at_z) = place_exists S (links_arranged d) z in
      let rotations = rotations_exist S (links_arranged d) (links_distinct d) in
      let e = label_from_right S (links_arranged d) (links_distinct d) rotations label labelling.agrees l c z sees a at_z in
      record {
        point = z;
        place = a;
        here = at_z;
        same = e;
        told = (
          λ yes.
              (let (w, w_sees, has) = (sides.right_side l c).0 yes in
              let (b, at_w) = place_exists S (links_arranged d) w in
              one_has w z b a at_w at_z (label_from_right S (links_arranged d) (links_distinct d) rotations label labelling.agrees l c w w_sees b at_w ∙ sym e) has),
          λ has. (sides.right_side l c).1 (z, sees, has),
        );
      }

  told_outside : IsTold outside
  told_outside =
      let (z, off, far) = exists_far_left S (links_arranged d) in
      let at_z : IsPlaceOf S z outside = left_is_outside S z far in
      record {
        point = z;
        place = outside;
        here = at_z;
        same = refl;
        told = (λ yes. absurd (let f : false ≡ true = yes in cc), λ has. absurd (not_outside d closed arcs r z at_z has));
      }

  told_at : (a : Place) → IsBeside S a → IsTold a
  told_at outside beside = told_outside
  told_at (left_of e) beside = go e.forward e.link beside
    where
      go : (b : Bool) (l : Segment) → Contains S l → IsTold (left_of (record { link = l; forward = b }))
      go true l c = told_left l c
      go false l c = told_right l c

  one_test : (a b : Place) → IsBeside S a → IsBeside S b → label a ≡ label b → test_of left right a ≡ test_of left right b
  one_test a b beside_a beside_b e =
      let at_a = told_at a beside_a in
      let at_b = told_at b beside_b in
      both_ways (test_of left right a) (test_of left right b)
      (λ yes. at_b.told.1 (one_has at_a.point at_b.point at_a.place at_b.place at_a.here at_b.here (at_a.same ∙ e ∙ sym at_b.same) (at_a.told.0 yes)))
      (λ yes. at_a.told.1 (one_has at_b.point at_a.point at_b.place at_a.place at_b.here at_a.here (at_b.same ∙ sym e ∙ sym at_a.same) (at_b.told.0 yes)))

  pub test_agrees : AgreesWherePlacesMeet (links_of (snapped d)) (test_of left right)
  test_agrees = record {
    sector = λ e f ce cf next. one_test (left_of e) (left_of (opposite f)) ce cf (labelling.agrees.sector e f ce cf next);
    ray = λ l c least first a here. one_test (right_side l) a c (place_beside S (at l.start) a here) (labelling.agrees.ray l c least first a here);
  }

  pub test_tells : (z : RationalPoint) (a : Place) → IsPlaceOf (links_of (snapped d)) z a → (test_of left right a ≡ true) ↔ Has (snapped d) arcs r z
  test_tells z a here =
      let at_a = told_at a (place_beside S z a here) in (
        λ yes. one_has at_a.point z at_a.place a at_a.here here at_a.same (at_a.told.0 yes),
        λ has. at_a.told.1 (one_has z at_a.point a at_a.place here at_a.here (sym at_a.same) has),
      )
