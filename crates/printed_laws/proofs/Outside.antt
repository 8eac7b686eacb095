-- No region has a point that is outside of all links.
use Rattle.std.proofs.Common.{inl, inr, refl, sym, ap, ◌∙◌, ℕ, false, List, [], ◌∷◌, get_or}
use Rattle.std.proofs.lemmas.List.Folds.{list_any_none}
use Rattle.plane_model.specs.Points.{RationalPoint, Segment, Path}
use Rattle.plane_model.specs.Drawing.{Drawing, Polygon}
use Rattle.plane_model.specs.Joined.{AreOfOneFace}
use Rattle.plane_model.specs.Parity.{feature_holds, links_of_paths, rings_hold}
use Rattle.plane_model.specs.Snapped.{links_of, snapped}
use Rattle.plane_model.specs.SnappedRings.{HasClosedRings}
use Rattle.plane_model.proofs.PointOrder.{clash}
use Rattle.plane_parity.proofs.Abscissa.{ray_law_nothing}
use Rattle.plane_parity.proofs.SnappedRings.{closed_runs_are_even_lists, list_any_same, snapped_boxes_are_even_lists, snapped_polygons_are_even_lists}
use Rattle.plane_snapping.proofs.SnappedLinks.{snapped_links_are_an_arrangement}
use Rattle.plane_faces.specs.Places.{outside, IsPlaceOf}
use Rattle.region_model.specs.Region.{Region, Regions, feature, box, any, both, less, part, gap, no_regions, one_more, Has, SomeHas}
use Rattle.region_laws.proofs.FarLeft.{exists_far_left, left_is_outside}
use Rattle.printed_laws.proofs.Constant.{joined_by_face, there_or_not}

-- points outside of all links are of one face
pub outside_is_one : (S : List Segment) (u v : RationalPoint) → IsPlaceOf S u outside → IsPlaceOf S v outside → AreOfOneFace S u v
outside_is_one S u v at_u at_v runs closed =
    let within = (closed_runs_are_even_lists S runs closed).within in
    ray_law_nothing S (links_of_paths runs) within u at_u ∙ sym (ray_law_nothing S (links_of_paths runs) within v at_v)

module _ (d : Drawing) (closed : HasClosedRings d) (arcs : List Path) where
  abbrev S : List Segment
  S = links_of (snapped d)

  no_feature : (n : ℕ) (z : RationalPoint) → IsPlaceOf (links_of (snapped d)) z outside → Has (snapped d) arcs (feature n) z → ⊥
  no_feature n z here h = elim (there_or_not (snapped d).polygons n []) [
    | inl c ↦ (
        let f : List Polygon = get_or (snapped d).polygons n [] in
        clash (feature_holds z f) h
        (list_any_same (rings_hold z) (λ (p : Polygon). false) f (λ p k. ray_law_nothing S (links_of_paths p) (snapped_polygons_are_even_lists d closed f p c k).within z here) ∙ list_any_none (λ (p : Polygon). false) f (λ i d l. refl)))
    | inr none ↦ clash (feature_holds z (get_or (snapped d).polygons n [])) h (ap (feature_holds z) none)
  ]

  no_box : (n : ℕ) (z : RationalPoint) → IsPlaceOf (links_of (snapped d)) z outside → Has (snapped d) arcs (box n) z → ⊥
  no_box n z here h = elim (there_or_not (snapped d).boxes n []) [
    | inl c ↦ (
        let b : Path = get_or (snapped d).boxes n [] in
        clash (rings_hold z (b ∷ [])) h (ray_law_nothing S (links_of_paths (b ∷ [])) (snapped_boxes_are_even_lists d closed b c).within z here))
    | inr none ↦ clash (rings_hold z (get_or (snapped d).boxes n [] ∷ [])) h (ap (λ (p : Path). rings_hold z (p ∷ [])) none)
  ]

  mutual
    pub not_outside : (r : Region) (z : RationalPoint) → IsPlaceOf (links_of (snapped d)) z outside → Has (snapped d) arcs r z → ⊥
    not_outside (feature n) z here h = no_feature n z here h
    not_outside (box n) z here h = no_box n z here h
    not_outside (any rs) z here h = none_outside rs z here h
    not_outside (both r s) z here h = not_outside r z here h.0
    not_outside (less r s) z here h = not_outside r z here h.0
    not_outside (part r j) z here h = not_outside r z here h.0
    not_outside (gap rs j) z here h =
        let (w, off, left) = exists_far_left S (snapped_links_are_an_arrangement d).0 in
        let at_w : IsPlaceOf S w outside = left_is_outside S w left in
        h.1.is_number.bounded w off (λ held. none_outside rs w at_w held, joined_by_face S (SomeHas (snapped d) arcs rs) z w (outside_is_one S z w here at_w)) left

    pub none_outside : (rs : Regions) (z : RationalPoint) → IsPlaceOf (links_of (snapped d)) z outside → SomeHas (snapped d) arcs rs z → ⊥
    none_outside no_regions z here h = h
    none_outside (one_more r rs) z here (inl h) = not_outside r z here h
    none_outside (one_more r rs) z here (inr h) = none_outside rs z here h
