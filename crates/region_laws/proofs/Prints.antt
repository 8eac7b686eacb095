-- What is traced for a set prints the region that it follows.
use Rattle.std.proofs.Common.{sym, subst, arith, ℕ, List, [], Contains, get_or, map, nat_eq}
use Rattle.lists.specs.Lists.{has, joined_up}
use Rattle.plane_model.specs.Points.{Segment, Path}
use Rattle.plane_model.specs.Drawing.{Drawing}
use Rattle.plane_model.specs.Rings.{UsesOnce}
use Rattle.plane_model.specs.Snapped.{links_of, snapped}
use Rattle.plane_faces.specs.Places.{Place, left_side, right_side}
use Rattle.plane_faces.proofs.Order.{place_exists}
use Rattle.face_walk.specs.Places.{FaceTable}
use Rattle.ring_trace.specs.Turns.{round_of}
use Rattle.part_laws.specs.Parts.{AreFacesOf}
use Rattle.part_laws.proofs.ApartLaws.{face_within, polygons_hold_by_parity, polygons_hold_the_set, within_polygon}
use Rattle.part_laws.proofs.BoundedLaws.{parts_have_boundaries}
use Rattle.part_laws.proofs.TogetherLaws.{traces_hold_by_parity, traces_use_the_border}
use Rattle.region_laws.specs.Followed.{IsWalked}
use Rattle.region_laws.specs.Printed.{PolygonsPrintParts, TracesPrintRegions, TracesUseBoundaries}
use Rattle.region_laws.proofs.PartLaws.{parts_are_followed}
use Rattle.region_laws.proofs.SideTests.{left_same, one_boundary, right_same}
use Rattle.region_laws.proofs.Walked.{arcs_free, links_arranged, links_distinct}

pub faces_of_links : (d : Drawing) (arcs : List Path) (faces : FaceTable) (label : Place → ℕ) → IsWalked d arcs faces label → AreFacesOf (links_of (snapped d)) arcs faces
faces_of_links d arcs faces label walked = record {
  arrangement = links_arranged d;
  distinct = links_distinct d;
  long = walked.table.long;
  along = walked.table.links;
  free = arcs_free d arcs faces label walked;
  built = walked.built;
}

pub traces_print_regions : TracesPrintRegions
traces_print_regions d arcs faces label walked set parts polygons traced r follows z off =
    let S : List Segment = links_of (snapped d) in
    let table = faces_of_links d arcs faces label walked in
    let (a, here) = place_exists S (links_arranged d) z in
    let by_rings = traces_hold_by_parity S arcs faces table set parts polygons traced z in
    let by_face = polygons_hold_the_set S arcs faces table set parts polygons traced label walked.labelled z a here in (
      λ e. (follows z off a here).1 (by_face.1 (by_rings.0 e)),
      λ h. by_rings.1 (by_face.0 ((follows z off a here).0 h)),
    )

pub polygons_print_parts : PolygonsPrintParts
polygons_print_parts d arcs faces label walked set parts polygons traced r follows =
    let S : List Segment = links_of (snapped d) in
    let table = faces_of_links d arcs faces label walked in
    let (bounds, all, counted) = parts_have_boundaries S arcs faces table set traced.inner parts traced.parted in (
      counted polygons traced.used,
      λ k below z off.
          (let many = counted polygons traced.used in
          let (a, here) = place_exists S (links_arranged d) z in
          let by_rings = polygons_hold_by_parity S arcs faces table set parts polygons traced k below z in
          let by_part = (parts_are_followed d arcs faces label walked set traced.inner r follows parts traced.parted).each k (omega arith) z off a here in (
            λ e. by_part.1 (subst (λ (ps : List (List ℕ)). Contains (get_or ps k []) (label a)) all (face_within S arcs faces table set parts polygons traced label walked.labelled k below z a here (by_rings.0 e))),
            λ h. by_rings.1 (within_polygon S arcs faces table set parts polygons traced label walked.labelled k below z a here (subst (λ (ps : List (List ℕ)). Contains (get_or ps k []) (label a)) (sym all) (by_part.0 h))),
          )),
    )

pub traces_use_boundaries : TracesUseBoundaries
traces_use_boundaries d arcs faces label walked set parts polygons traced used r follows left right sides =
    let S : List Segment = links_of (snapped d) in
    subst (λ (steps : List Segment). UsesOnce steps (map (round_of arcs) (joined_up polygons)))
    (one_boundary (λ (l : Segment). has nat_eq set (label (left_side l))) (λ (l : Segment). has nat_eq set (label (right_side l))) left right S
    (λ l c. left_same d arcs faces label walked set r follows left right sides l c) (λ l c. right_same d arcs faces label walked set r follows left right sides l c))
    (traces_use_the_border S arcs faces (faces_of_links d arcs faces label walked) set parts polygons traced used label walked.labelled)
