-- What is traced for the set of a region fits the region.
use Rattle.std.proofs.Common.{◌≡◌, sym, subst, ◌∙◌, arith, ℕ, zero, suc, ◌+◌, ◌<◌, List, [], ◌∷◌, length, get_or, map, nat_eq}
use Rattle.std.specs.List.{AllZip, range_with_len}
use Rattle.std.proofs.lemmas.List.{get_or-map, length-map}
use Rattle.plane_snapping.proofs.SnappedLinks.{joined_map}
use Rattle.lists.specs.Lists.{has}
use Rattle.plane_model.specs.Points.{Segment, Path}
use Rattle.plane_model.specs.Rings.{FitsPart, UsesOnce}
use Rattle.plane_model.specs.Snapped.{links_of, snapped}
use Rattle.plane_faces.specs.Places.{Place, left_side, right_side}
use Rattle.plane_faces.specs.UsedOnce.{border_steps}
use Rattle.ring_trace.specs.Traced.{bounded}
use Rattle.ring_trace.specs.Turns.{round_of}
use Rattle.part_laws.proofs.BoundedLaws.{parts_have_boundaries}
use Rattle.part_laws.proofs.FitLaws.{traced_polygons_fit}
use Rattle.region_model.specs.Region.{part}
use Rattle.region_model.specs.Answers.{boundary}
use Rattle.region_model.specs.Printed.{FitsPartOf}
use Rattle.region_laws.specs.Answered.{TracesFit, plane_with}
use Rattle.region_laws.proofs.Answered.{one_bound, parts_are_told}
use Rattle.region_laws.proofs.PartLaws.{parts_are_followed}
use Rattle.region_laws.proofs.Prints.{faces_of_links, traces_use_boundaries}
use Rattle.region_laws.proofs.SideTests.{left_same, one_boundary, right_same}

-- a relation of numbers in a row and the elements of a list
in_a_row : {Y : Type 0} (R : ℕ → Y → Type 0) (d : Y) (ys : List Y) (a n : ℕ) → n ≡ length ys → ((k : ℕ) → k < length ys → R (a + k) (get_or ys k d)) → AllZip R (range_with_len a n) ys
in_a_row R d [] a zero many h = tt
in_a_row R d [] a (suc n) many h = absurd (omega arith)
in_a_row R d (y ∷ ys) a zero many h = absurd (omega arith)
in_a_row R d (y ∷ ys) a (suc n) many h = (
  subst (λ (m : ℕ). R m y) (let e : a + 0 ≡ a = omega arith in e) (h 0 (omega arith)),
  in_a_row R d ys (a + 1) n (omega arith) (λ k l. subst (λ (m : ℕ). R m (get_or ys k d)) (let e : a + suc k ≡ a + 1 + k = omega arith in e) (h (suc k) (omega arith))),
)

pub traces_fit : TracesFit
traces_fit d arcs faces label walked set parts polygons traced used r follows A sides each_sides counted =
    record {
      whole = subst (UsesOnce (boundary (plane_with d arcs) A r)) (sym (joined_map (round_of arcs) polygons)) (traces_use_boundaries d arcs faces label walked set parts polygons traced used r follows (A.left r) (A.right r) sides);
      by_parts = in_a_row (FitsPartOf (plane_with d arcs) A r) [] (map (map (round_of arcs)) polygons) 0 (A.parts r) (many ∙ sym (length-map polygons (map (round_of arcs)))) one;
    }
  where
    all_kept : bounded faces.places (length arcs) parts ≡ parts
    all_kept = (parts_have_boundaries (links_of (snapped d)) arcs faces (faces_of_links d arcs faces label walked) set traced.inner parts traced.parted).1

    as_many : length polygons ≡ length parts
    as_many = (parts_have_boundaries (links_of (snapped d)) arcs faces (faces_of_links d arcs faces label walked) set traced.inner parts traced.parted).2 polygons traced.used

    many : A.parts r ≡ length polygons
    many =
        let by_set = parts_are_told d arcs faces label walked set traced.inner r follows parts traced.parted in
        one_bound (A.parts r) (length parts) (λ j l. (by_set j).1 ((counted j).0 l)) (λ j l. (counted j).1 ((by_set j).0 l)) ∙ sym as_many

    fits : (k : ℕ) → k < length polygons → FitsPart arcs (boundary (plane_with d arcs) A (part r k)) (map (round_of arcs) (get_or polygons k []))
    fits k below =
        let table = faces_of_links d arcs faces label walked in
        let within : k < length parts = let e = as_many in omega arith in
        let followed = (parts_are_followed d arcs faces label walked set traced.inner r follows parts traced.parted).each k within in
        let told = each_sides k within in
        subst (λ (steps : List Segment). FitsPart arcs steps (map (round_of arcs) (get_or polygons k [])))
        (one_boundary (λ (l : Segment). has nat_eq (get_or parts k []) (label (left_side l))) (λ (l : Segment). has nat_eq (get_or parts k []) (label (right_side l))) (A.left (part r k)) (A.right (part r k)) (links_of (snapped d))
        (λ l c. left_same d arcs faces label walked (get_or parts k []) (part r k) followed (A.left (part r k)) (A.right (part r k)) told l c)
        (λ l c. right_same d arcs faces label walked (get_or parts k []) (part r k) followed (A.left (part r k)) (A.right (part r k)) told l c))
        (subst (λ (all : List (List ℕ)). FitsPart arcs (border_steps (λ (place : Place). has nat_eq (get_or all k []) (label place)) (links_of (snapped d))) (map (round_of arcs) (get_or polygons k []))) all_kept
        (traced_polygons_fit (links_of (snapped d)) arcs faces table set parts polygons traced label walked.labelled k below))

    one : (k : ℕ) → k < length (map (map (round_of arcs)) polygons) → FitsPartOf (plane_with d arcs) A r (0 + k) (get_or (map (map (round_of arcs)) polygons) k [])
    one k l =
        let size = length-map polygons (map (round_of arcs)) in
        let same : k ≡ 0 + k = omega arith in
        subst (λ (j : ℕ). FitsPartOf (plane_with d arcs) A r j (get_or (map (map (round_of arcs)) polygons) k [])) same
        (subst (λ (rings : List Path). FitsPart arcs (boundary (plane_with d arcs) A (part r k)) rings) (sym (get_or-map (map (round_of arcs)) polygons k [] [] (omega arith))) (fits k (omega arith)))
