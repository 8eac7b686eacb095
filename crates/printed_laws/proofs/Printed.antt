-- Rings that use the boundary of a region once hold its points.
use Rattle.std.proofs.Common.{◌≡◌, refl, sym, subst, ◌∙◌, Bool, true, false, cond, List, [], ◌∷◌, map, filter}
use Rattle.std.specs.Prelude.{◌↔◌, All}
use Rattle.std.specs.List.{cons_option}
use Rattle.std.specs.List.Sorted.{IsPermutation}
use Rattle.std.proofs.lemmas.List.Elements.{All-head, All-tail}
use Rattle.std.proofs.lemmas.List.Sorted.{IsPermutation-map, IsPermutation-sym}
use Rattle.region_laws.proofs.Walked.{links_arranged, links_distinct}
use Rattle.plane_parity.proofs.Counted.{link_itself, link_reversed}
use Rattle.lists.specs.Lists.{joined_up}
use Rattle.plane_model.specs.Points.{RationalPoint, Segment, Path, link_between}
use Rattle.plane_model.specs.Arrangement.{IsArrangement, IsBefore}
use Rattle.plane_model.specs.Boundary.{boundary_by, boundary_step}
use Rattle.plane_model.specs.Drawing.{Drawing, steps_of_paths}
use Rattle.plane_model.specs.Parity.{is_below, links_of_paths, rings_hold, xor}
use Rattle.plane_model.specs.Rings.{UsesOnce}
use Rattle.plane_model.specs.Snapped.{links_of, snapped}
use Rattle.plane_model.specs.SnappedRings.{HasClosedRings}
use Rattle.plane_faces.specs.Places.{Place, border, left_side, right_side}
use Rattle.plane_faces.specs.UsedOnce.{border_steps}
use Rattle.plane_faces.proofs.Connected.{border_parity}
use Rattle.plane_faces.proofs.Lists.{odd_count-permutation}
use Rattle.plane_faces.proofs.Order.{place_exists}
use Rattle.plane_faces.proofs.Sorting.{rotations_exist}
use Rattle.region_model.specs.Region.{Region, Has}
use Rattle.region_model.specs.Answers.{AreSides}
use Rattle.region_model.specs.Printed.{RegionsArePrinted}
use Rattle.printed_laws.proofs.Tests.{test_agrees, test_of, test_tells}

-- ---- the steps of a boundary are its links, each directed

abbrev Ordered : Segment → Type 0
Ordered l = IsBefore l.start l.stop

links_of_steps : (left right : Segment → Bool) (S : List Segment) → All Ordered S → map link_between (boundary_by left right S) ≡ filter (λ l. xor (left l) (right l)) S
links_of_steps left right [] h = refl
links_of_steps left right (l ∷ ls) h = go (left l) (right l) (All-head Ordered l ls h) (links_of_steps left right ls (All-tail Ordered l ls h))
  where
    go : (a b : Bool) → IsBefore l.start l.stop → map link_between (boundary_by left right ls) ≡ filter (λ l. xor (left l) (right l)) ls
        → map link_between (cons_option (boundary_step a b l) (boundary_by left right ls)) ≡ cond (xor a b) (l ∷ filter (λ l. xor (left l) (right l)) ls) (filter (λ l. xor (left l) (right l)) ls)
    go true true o e = e
    go true false o e = λ i. link_itself l o i ∷ e i
    go false true o e = λ i. link_reversed l o i ∷ e i
    go false false o e = e

-- rings that use the steps of a border once have its links
pub links_used : (S : List Segment) → IsArrangement S → (f : Place → Bool) → (rings : List Path) → UsesOnce (border_steps f S) rings → IsPermutation (links_of_paths rings) (border f S)
links_used S arr f rings uses =
    IsPermutation-sym (border f S) (links_of_paths rings)
    (subst (λ (ls : List Segment). IsPermutation ls (links_of_paths rings)) (links_of_steps (λ (l : Segment). f (left_side l)) (λ (l : Segment). f (right_side l)) S arr.ordered)
    (IsPermutation-map link_between (border_steps f S) (steps_of_paths rings) uses.steps_once))

-- whatever rings use the boundary once
pub boundary_holds : (d : Drawing) → HasClosedRings d → (arcs : List Path) (r : Region) (left right : Segment → Bool) → AreSides (links_of (snapped d)) (Has (snapped d) arcs r) left right →
    (rings : List Path) → UsesOnce (boundary_by left right (links_of (snapped d))) rings → (z : RationalPoint) → (rings_hold z rings ≡ true) ↔ Has (snapped d) arcs r z
boundary_holds d closed arcs r left right sides rings uses z =
    let S : List Segment = links_of (snapped d) in
    let f : Place → Bool = test_of left right in
    let agrees = test_agrees d closed arcs r left right sides in
    let (a, here) = place_exists S (links_arranged d) z in
    let same : rings_hold z rings ≡ f a =
    odd_count-permutation (is_below z) (links_of_paths rings) (border f S) (links_used S (links_arranged d) f rings uses)
    ∙ border_parity S (links_arranged d) (links_distinct d) (rotations_exist S (links_arranged d) (links_distinct d)) f agrees refl z a here in
    let tells = test_tells d closed arcs r left right sides z a here in
    (λ e. tells.0 (sym same ∙ e), λ h. same ∙ tells.1 h)

pub regions_are_printed : RegionsArePrinted
regions_are_printed d A r polygons h z off = boundary_holds d h.closed _ r (A.left r) (A.right r) (h.right.sides r) (joined_up polygons) h.fit.whole z
