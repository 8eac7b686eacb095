-- Each part of a region has a polygon that fits it: its faces are one part of the faces of the region, whose border has
-- an exterior.
use Rattle.std.proofs.Common.{◌≡◌, inl, inr, refl, sym, ap, ◌∙◌, subst, ℕ, Bool, true, false, ◌&&◌, nat_eq, List, Contains}
use Rattle.std.specs.Prelude.{All, ◌↔◌}
use Rattle.std.specs.Cmp.{both_ways}
use Rattle.std.proofs.lemmas.Bool.{and_parts, cases_eq, eq-eqb, eqb-true, false_from_ne_true}
use Rattle.std.proofs.lemmas.List.Elements.{All-weaker}
use Rattle.plane_model.specs.Points.{RationalPoint, Segment, Path}
use Rattle.plane_model.specs.Arcs.{arcs_of}
use Rattle.plane_model.specs.Drawing.{Drawing, Polygon}
use Rattle.plane_model.specs.Joined.{AreJoinedIn, IsBoundaryLink}
use Rattle.plane_model.specs.Rings.{FitsPart, UsesOnce}
use Rattle.plane_model.specs.Sees.{IsOffLinks}
use Rattle.plane_model.specs.Sides.{Points}
use Rattle.plane_model.specs.Snapped.{links_of, snapped}
use Rattle.plane_model.specs.SnappedRings.{HasClosedRings}
use Rattle.plane_parity.proofs.Visible.{seen_from_left, seen_from_right}
use Rattle.plane_faces.specs.Classes.{PointsWhere}
use Rattle.plane_faces.specs.Labels.{IsPartLabelling, among, in_part}
use Rattle.plane_faces.specs.Places.{Place, outside, left_side, right_side, AgreesWherePlacesMeet, IsPlaceOf}
use Rattle.plane_faces.specs.Rings.{IsRing}
use Rattle.plane_faces.specs.UsedOnce.{border_steps}
use Rattle.plane_faces.proofs.Classes.{labels_are_faces, parts_are_joined}
use Rattle.plane_faces.proofs.FaceLaws.{among_agrees, place_beside}
use Rattle.plane_faces.proofs.Joining.{part_labelling}
use Rattle.plane_faces.proofs.Order.{place_exists}
use Rattle.plane_faces.proofs.Tables.{place_is_one}
use Rattle.plane_faces.proofs.UsedOnce.{borders_are_used_once, parts_used_once_are_polygons}
use Rattle.region_model.specs.Region.{Region, Has, IsInPart, part}
use Rattle.region_model.specs.Answers.{Answers, AreRight, boundary, plane_of}
use Rattle.region_laws.proofs.FarLeft.{exists_far_left, left_is_outside}
use Rattle.region_laws.proofs.OffLinks.{off_from_left, off_from_right}
use Rattle.region_laws.proofs.SideTests.{one_boundary}
use Rattle.region_laws.proofs.Walked.{links_arranged, links_distinct}
use Rattle.printed_laws.proofs.Constant.{has_face, joined_back, one_part}
use Rattle.printed_laws.proofs.JoinedParts.{joined_in_part}
use Rattle.printed_laws.proofs.Outside.{not_outside}
use Rattle.answer_laws.proofs.Deciding.{both_told, same_told, test, test_says}
use Rattle.answer_laws.proofs.Exist.{has_told}
use Rattle.answer_laws.proofs.FaceSets.{IsFaceSet, from_left, from_right, label, labelling, one_face, point_told}
use Rattle.answer_laws.proofs.Polygons.{HasExterior, polygon_fits}
use Rattle.answer_laws.specs.Polygons.{EachPartIsPrinted}

-- ---- points joined in a set are joined in one with the same points off the links

module _ (S : List Segment) (P Q : Points) (to : (z : RationalPoint) → IsOffLinks S z → P z → Q z) (from : (z : RationalPoint) → IsOffLinks S z → Q z → P z) where
  bounding_too : (l : Segment) → IsBoundaryLink S Q l → IsBoundaryLink S P l
  bounding_too l (inl ((z, sees, q), none)) = inl ((z, sees, from z (off_from_left S l z sees) q), λ (w, sees_w, p). none (w, sees_w, to w (off_from_right S l w sees_w) p))
  bounding_too l (inr ((z, sees, q), none)) = inr ((z, sees, from z (off_from_right S l z sees) q), λ (w, sees_w, p). none (w, sees_w, to w (off_from_left S l w sees_w) p))

  bounded_too : (l : Segment) → IsBoundaryLink S P l → IsBoundaryLink S Q l
  bounded_too l (inl ((z, sees, p), none)) = inl ((z, sees, to z (off_from_left S l z sees) p), λ (w, sees_w, q). none (w, sees_w, from w (off_from_right S l w sees_w) q))
  bounded_too l (inr ((z, sees, p), none)) = inr ((z, sees, to z (off_from_right S l z sees) p), λ (w, sees_w, q). none (w, sees_w, from w (off_from_left S l w sees_w) q))

  joined_too : (u v : RationalPoint) → AreJoinedIn S P u v → AreJoinedIn S Q u v
  joined_too u v joined boundary are = joined boundary (record {
    links = All-weaker (λ l. Contains S l × IsBoundaryLink S Q l) (λ l. Contains S l × IsBoundaryLink S P l) (λ l h. (h.0, bounding_too l h.1)) boundary are.links;
    all = λ l c bounding. are.all l c (bounded_too l bounding);
  })

module _ (d : Drawing) (closed : HasClosedRings d) (r : Region) where
  abbrev S : List Segment
  S = links_of (snapped d)

  abbrev arcs : List Path
  arcs = arcs_of (snapped d) (links_of (snapped d))

  abbrev R : Points
  R z = Has (snapped d) (arcs_of (snapped d) (links_of (snapped d))) r z

  abbrev name : Place → ℕ
  name a = label (links_of (snapped d)) (links_arranged d) (links_distinct d) a

  -- ---- the labels of the region

  -- the points of the region with the label n
  abbrev Named : ℕ → Points
  Named n z = Has (snapped d) (arcs_of (snapped d) (links_of (snapped d))) r z × ((a : Place) × IsPlaceOf (links_of (snapped d)) z a × (name a ≡ n))

  named : (n : ℕ) → IsFaceSet (links_of (snapped d)) (Named n)
  named n = record {
    told = λ z.
        (let (a, here) = place_exists S (links_arranged d) z in
        both_told (has_told d closed r z) (same_told (λ e. (a, here, e)) (λ (b, there, e). ap name (place_is_one S (links_arranged d) z a b here there) ∙ e) (cases_eq (name a) n)));
    faces = λ u v one (held, (a, at_u, e)).
        (let (b, at_v) = place_exists S (links_arranged d) v in
        (has_face d closed arcs r u v one held, (b, at_v, sym ((labels_are_faces S (links_arranged d) (links_distinct d) (label S (links_arranged d) (links_distinct d)) (labelling S (links_arranged d) (links_distinct d)) u v a b at_u at_v).1 one) ∙ e)));
  }

  pub has_label : ℕ → Bool
  has_label n = test (point_told S (links_arranged d) (links_distinct d) (Named n) (named n))

  -- a point off the links has a label of the region exactly if it is in it
  pub label_tells : (z : RationalPoint) (a : Place) → IsOffLinks (links_of (snapped d)) z → IsPlaceOf (links_of (snapped d)) z a → (has_label (name a) ≡ true) ↔ R z
  unfolding has_label
  label_tells z a off here =
      let says = test_says (point_told S (links_arranged d) (links_distinct d) (Named (name a)) (named (name a))) in (
        λ e. (let (w, off_w, (held, (b, there, same))) = says.0 e in has_face d closed arcs r w z (one_face S (links_arranged d) (links_distinct d) w z b a there here same) held),
        λ held. says.1 (z, off, (held, (a, here, refl))),
      )

  pub not_outer : has_label (name outside) ≡ false
  not_outer = false_from_ne_true (has_label (name outside)) (λ e.
      let (far, off, left) = exists_far_left S (links_arranged d) in
      let here : IsPlaceOf S far outside = left_is_outside S far left in
      not_outside d closed arcs r far here ((label_tells far outside off here).0 e))

  pub part_of : ℕ → ℕ
  part_of = (part_labelling S name has_label).0

  pub parts_labelled : IsPartLabelling (links_of (snapped d)) name has_label part_of
  unfolding part_of
  parts_labelled = (part_labelling S name has_label).1

  -- two points of the region are joined in it exactly if their labels are of one part
  pub joined_by_part : (u v : RationalPoint) (a b : Place) → IsOffLinks (links_of (snapped d)) u → IsOffLinks (links_of (snapped d)) v → IsPlaceOf (links_of (snapped d)) u a → IsPlaceOf (links_of (snapped d)) v b → R u → R v →
      (part_of (name a) ≡ part_of (name b)) ↔ AreJoinedIn (links_of (snapped d)) R u v
  joined_by_part u v a b off_u off_v at_u at_v in_u in_v =
      let by_labels = parts_are_joined S (links_arranged d) (links_distinct d) (label S (links_arranged d) (links_distinct d)) (labelling S (links_arranged d) (links_distinct d)) has_label not_outer part_of parts_labelled u v a b at_u at_v
      ((label_tells u a off_u at_u).1 in_u) ((label_tells v b off_v at_v).1 in_v) in
      (λ e. joined_too S (PointsWhere S (among name has_label)) R of_label to_label u v (by_labels.0 e), λ joined. by_labels.1 (joined_too S R (PointsWhere S (among name has_label)) to_label of_label u v joined))
    where
      to_label : (z : RationalPoint) → IsOffLinks (links_of (snapped d)) z → R z → PointsWhere (links_of (snapped d)) (among name has_label) z
      to_label z off held = let (a, here) = place_exists S (links_arranged d) z in (a, here, (label_tells z a off here).1 held)

      of_label : (z : RationalPoint) → IsOffLinks (links_of (snapped d)) z → PointsWhere (links_of (snapped d)) (among name has_label) z → R z
      of_label z off (a, here, e) = (label_tells z a off here).0 e

  -- ---- one part

  module _ (A : Answers) (right : AreRight (plane_of d) A) (j : ℕ) (w : RationalPoint) (off_w : IsOffLinks (links_of (snapped d)) w) (in_w : R w) (part_w : IsInPart (links_of (snapped d)) (arcs_of (snapped d) (links_of (snapped d))) R w j)
      (b : Place) (at_w : IsPlaceOf (links_of (snapped d)) w b) where
    -- the labels of the part
    abbrev pub in_it : Place → Bool
    in_it a = in_part has_label part_of (part_of (name b)) (name a)

    pub in_it_tells : (z : RationalPoint) (a : Place) → IsOffLinks (links_of (snapped d)) z → IsPlaceOf (links_of (snapped d)) z a → (in_it a ≡ true) ↔ Has (snapped d) (arcs_of (snapped d) (links_of (snapped d))) (part r j) z
    in_it_tells z a off here = (
      λ e.
          let (labelled, same) = and_parts (has_label (name a)) (nat_eq (part_of (name a)) (part_of (name b))) e in
          let held : R z = (label_tells z a off here).0 labelled in
          (held, one_part S R arcs w z (joined_back S R z w ((joined_by_part z w a b off off_w here at_w held in_w).0 (eqb-true (part_of (name a)) (part_of (name b)) same))) j part_w),
      λ (held, in_j).
          let joined = joined_in_part d closed r j z w off off_w held in_w in_j part_w in
          let labelled = (label_tells z a off here).1 held in
          let same = eq-eqb (part_of (name a)) (part_of (name b)) ((joined_by_part z w a b off off_w here at_w held in_w).1 joined) in
          (λ i. labelled i && same i),
    )

    left_is : (l : Segment) → Contains (links_of (snapped d)) l → A.left (part r j) l ≡ in_it (left_side l)
    left_is l c =
        let (z, sees) = seen_from_left S (links_arranged d) l c in
        let (a, here) = place_exists S (links_arranged d) z in
        let same : in_it a ≡ in_it (left_side l) = ap (in_part has_label part_of (part_of (name b))) (from_left S (links_arranged d) (links_distinct d) l c z sees a here) in
        let tells = in_it_tells z a (off_from_left S l z sees) here in
        let set = (right.sides (part r j)).left_side l c in
        both_ways (A.left (part r j) l) (in_it (left_side l))
        (λ e. (let (u, sees_u, held) = set.0 e in
        let (x, at_u) = place_exists S (links_arranged d) u in
        sym (ap (in_part has_label part_of (part_of (name b))) (from_left S (links_arranged d) (links_distinct d) l c u sees_u x at_u)) ∙ (in_it_tells u x (off_from_left S l u sees_u) at_u).1 held))
        (λ e. set.1 (z, sees, tells.0 (same ∙ e)))

    right_is : (l : Segment) → Contains (links_of (snapped d)) l → A.right (part r j) l ≡ in_it (right_side l)
    right_is l c =
        let (z, sees) = seen_from_right S (links_arranged d) l c in
        let (a, here) = place_exists S (links_arranged d) z in
        let same : in_it a ≡ in_it (right_side l) = ap (in_part has_label part_of (part_of (name b))) (from_right S (links_arranged d) (links_distinct d) l c z sees a here) in
        let tells = in_it_tells z a (off_from_right S l z sees) here in
        let set = (right.sides (part r j)).right_side l c in
        both_ways (A.right (part r j) l) (in_it (right_side l))
        (λ e. (let (u, sees_u, held) = set.0 e in
        let (x, at_u) = place_exists S (links_arranged d) u in
        sym (ap (in_part has_label part_of (part_of (name b))) (from_right S (links_arranged d) (links_distinct d) l c u sees_u x at_u)) ∙ (in_it_tells u x (off_from_right S l u sees_u) at_u).1 held))
        (λ e. set.1 (z, sees, tells.0 (same ∙ e)))

    -- its border is the boundary of the part
    border_is : boundary (plane_of d) A (part r j) ≡ border_steps (among name (in_part has_label part_of (part_of (name b)))) (links_of (snapped d))
    border_is = one_boundary (A.left (part r j)) (A.right (part r j)) (λ l. in_it (left_side l)) (λ l. in_it (right_side l)) S left_is right_is

    exterior_of : (rings : List Path) → UsesOnce (border_steps (among name (in_part has_label part_of (part_of (name b)))) (links_of (snapped d))) rings → All IsRing rings → HasExterior rings
    exterior_of rings uses are_rings =
        let polygon = parts_used_once_are_polygons S (links_arranged d) (links_distinct d) (label S (links_arranged d) (links_distinct d)) (labelling S (links_arranged d) (links_distinct d)) has_label not_outer part_of parts_labelled (part_of (name b)) rings uses are_rings
        b (place_beside S w b at_w) ((in_it_tells w b off_w at_w).1 (in_w, part_w)) in
        record { before = polygon.before; exterior = polygon.exterior; after = polygon.after; are = polygon.are; turns_left = polygon.exterior_turns_left; turn_right = polygon.holes_turn_right }

    pub part_polygon : (polygon : Polygon) × FitsPart (arcs_of (snapped d) (links_of (snapped d))) (boundary (plane_of d) A (part r j)) polygon
    part_polygon =
        let f : Place → Bool = among name (in_part has_label part_of (part_of (name b))) in
        let agrees : AgreesWherePlacesMeet S f = among_agrees S (label S (links_arranged d) (links_distinct d)) (labelling S (links_arranged d) (links_distinct d)).agrees (in_part has_label part_of (part_of (name b))) in
        let (rings, uses, are_rings, least) = borders_are_used_once S (links_arranged d) (links_distinct d) f agrees in
        subst (λ (steps : List Segment). (polygon : Polygon) × FitsPart arcs steps polygon) (sym border_is)
        (polygon_fits (snapped d) (links_arranged d) (links_distinct d) (λ l. f (left_side l)) (λ l. f (right_side l)) rings uses are_rings exterior_of)

pub each_part_is_printed : EachPartIsPrinted
each_part_is_printed d A closed right r j below =
    let (w, off, (in_w, part_w)) = (right.parts r j).0 below in
    let (b, at_w) = place_exists (links_of (snapped d)) (links_arranged d) w in
    part_polygon d closed r A right j w off in_w part_w b at_w
