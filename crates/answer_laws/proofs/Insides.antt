-- Whether a vertex is inside a set of points can be told: by the sides of the links that end there, or by the vertex
-- itself where it is on no link.
use Rattle.std.proofs.Common.{◌≡◌, ◌⊎◌, inl, inr, sym, ◌∙◌, subst, Bool, true, false, cond, List, Contains}
use Rattle.region_laws.proofs.Walked.{links_arranged, links_distinct}
use Rattle.plane_model.specs.Points.{GridPoint, Segment, at}
use Rattle.plane_model.specs.Drawing.{Drawing, vertices_of}
use Rattle.plane_model.specs.Rotation.{Dart, tail}
use Rattle.plane_model.specs.Sees.{IsOffLinks, SeesPoint}
use Rattle.plane_model.specs.Sides.{IsInside, LeftIn, Points, RightIn}
use Rattle.plane_model.specs.Snapped.{links_of, snapped}
use Rattle.plane_parity.proofs.LinkOrder.{same_grid}
use Rattle.plane_snapping.proofs.SnappedLinks.{no_vertex_inside}
use Rattle.plane_faces.specs.Around.{backward_dart, forward_dart}
use Rattle.plane_faces.specs.Places.{Place, left_of, IsPlaceOf}
use Rattle.plane_faces.proofs.Order.{place_exists}
use Rattle.point_laws.proofs.Sectors.{seen_from_sectors}
use Rattle.point_laws.proofs.SeenSectors.{sectors_are_seen}
use Rattle.point_laws.proofs.SightLemmas.{free_points_are_seen, seen_from_one_face}
use Rattle.printed_laws.proofs.Constant.{past_back}
use Rattle.answer_laws.proofs.Deciding.{IsTold, both_told, either_told, same_told, some_told}
use Rattle.answer_laws.proofs.FaceSets.{IsFaceSet, has_left, has_right, label, labelling, left_has, left_told, points_told, right_has, right_told}

module _ (d : Drawing) (Q : Points) (set : IsFaceSet (links_of (snapped d)) Q) (p : GridPoint) where
  abbrev S : List Segment
  S = links_of (snapped d)

  -- ---- an end of links

  -- a side of a link that ends at p belongs to the set
  abbrev HasSide : Segment → Type 0
  HasSide l = ((l.start ≡ p) × LeftIn (links_of (snapped d)) Q l) ⊎ ((l.stop ≡ p) × RightIn (links_of (snapped d)) Q l)

  -- the side is seen from p
  side_seen : (l : Segment) → Contains (links_of (snapped d)) l → HasSide l → IsInside (links_of (snapped d)) Q p
  side_seen l c (inl (starts, belongs)) =
      let (z, sees, off, says) = sectors_are_seen S (links_arranged d) (links_distinct d) (forward_dart l) c in
      let (a, here) = place_exists S (links_arranged d) z in
      (z, subst (λ (q : GridPoint). SeesPoint S q z) starts sees, left_has S (links_arranged d) (links_distinct d) Q set l c belongs z a here (says (label S (links_arranged d) (links_distinct d)) (labelling S (links_arranged d) (links_distinct d)).agrees a here))
  side_seen l c (inr (stops, belongs)) =
      let (z, sees, off, says) = sectors_are_seen S (links_arranged d) (links_distinct d) (backward_dart l) c in
      let (a, here) = place_exists S (links_arranged d) z in
      (z, subst (λ (q : GridPoint). SeesPoint S q z) stops sees, right_has S (links_arranged d) (links_distinct d) Q set l c belongs z a here (says (label S (links_arranged d) (links_distinct d)) (labelling S (links_arranged d) (links_distinct d)).agrees a here))

  seen_side : (e : Dart) → Contains (links_of (snapped d)) e.link → tail e ≡ p → IsInside (links_of (snapped d)) Q p → (l : Segment) × Contains (links_of (snapped d)) l × HasSide l
  seen_side e c starts (z, sees, q) =
      let (a, here) = place_exists S (links_arranged d) z in
      let (f, on, tails, same) = seen_from_sectors S (links_arranged d) (links_distinct d) (label S (links_arranged d) (links_distinct d)) (labelling S (links_arranged d) (links_distinct d)).agrees e c z (subst (λ (g : GridPoint). SeesPoint S g z) (sym starts) sees) a here in
      (f.link, on, by_direction f.forward f.link on a here (tails ∙ starts) same)
    where
      by_direction : (forward : Bool) (l : Segment) → Contains (links_of (snapped d)) l → (a : Place) → IsPlaceOf (links_of (snapped d)) z a → cond forward l.start l.stop ≡ p →
          label (links_of (snapped d)) (links_arranged d) (links_distinct d) a ≡ label (links_of (snapped d)) (links_arranged d) (links_distinct d) (left_of (record { link = l; forward = forward })) → HasSide l
      by_direction true l on a here at_p same = inl (at_p, has_left S (links_arranged d) (links_distinct d) Q set l on z a here same q)
      by_direction false l on a here at_p same = inr (at_p, has_right S (links_arranged d) (links_distinct d) Q set l on z a here same q)

  at_links : (e : Dart) → Contains (links_of (snapped d)) e.link → tail e ≡ p → IsTold (IsInside (links_of (snapped d)) Q p)
  at_links e c starts =
      same_told (λ (h : (l : Segment) × Contains S l × HasSide l). side_seen h.0 h.1 h.2) (seen_side e c starts)
      (some_told HasSide S (λ l on. either_told (both_told (points_told l.start p) (left_told S (links_arranged d) (links_distinct d) Q set l on)) (both_told (points_told l.stop p) (right_told S (links_arranged d) (links_distinct d) Q set l on))))

  -- ---- on no link

  alone : IsOffLinks (links_of (snapped d)) (at p) → IsTold (IsInside (links_of (snapped d)) Q p)
  alone off =
      same_told
      (λ q. (let (z, sees, off_z) = free_points_are_seen S (links_arranged d) p off in (z, sees, set.faces (at p) z (past_back S z (at p) (seen_from_one_face S (links_arranged d) p off z sees)) q)))
      (λ (z, sees, q). set.faces z (at p) (seen_from_one_face S (links_arranged d) p off z sees) q) (set.told (at p))

  -- p is an end of a link, or on none
  abbrev EndsThere : Segment → Type 0
  EndsThere l = (l.start ≡ p) ⊎ (l.stop ≡ p)

  pub inside_told : Contains (vertices_of (snapped d)) p → IsTold (IsInside (links_of (snapped d)) Q p)
  inside_told vertex = elim (some_told EndsThere S (λ l c. either_told (points_told l.start p) (points_told l.stop p))) [
    | inl r ↦ elim r.2 [
      | inl starts ↦ at_links (forward_dart r.0) r.1 starts
      | inr stops ↦ at_links (backward_dart r.0) r.1 stops
    ]
    | inr none ↦ alone (λ l c on. elim (no_vertex_inside d l p c vertex on) [
      | inl here ↦ none (l, c, inl (sym (same_grid p l.start here)))
      | inr here ↦ none (l, c, inr (sym (same_grid p l.stop here)))
    ])
  ]
