-- Of polygons that fit a region both readings agree, so that no point lies in two.
use Rattle.std.proofs.Common.{◌≡◌, refl, sym, ◌∙◌, arith, ℕ, [], ◌∷◌}
use Rattle.std.specs.List.{range_with_len}
use Rattle.region_laws.proofs.Walked.{links_arranged, links_distinct}
use Rattle.plane_model.specs.Points.{RationalPoint}
use Rattle.plane_model.specs.Drawing.{Drawing, Polygon}
use Rattle.plane_model.specs.Parity.{rings_hold}
use Rattle.plane_model.specs.SnappedRings.{HasClosedRings}
use Rattle.region_model.specs.Region.{Region, part}
use Rattle.region_model.specs.Answers.{Answers, AreRight, plane_of}
use Rattle.region_model.specs.Printed.{FitsPartOf, PolygonsAreApart, ReadingsAgree, polygon_holds}
use Rattle.printed_laws.specs.Counted.{RegionsAreRead}
use Rattle.printed_laws.proofs.Counted.{at_number, joined_points_are_held_by_one, part_at, zip_weaker, none_is_held_twice}
use Rattle.printed_laws.proofs.Readings.{readings}
use Rattle.printed_laws.proofs.Tests.{test_agrees, test_of}

of_part : (d : Drawing) (A : Answers) (r : Region) (j : ℕ) → HasClosedRings d → AreRight (plane_of d) A → (polygon : Polygon) → FitsPartOf (plane_of d) A r j polygon → (z : RationalPoint) → rings_hold z polygon ≡ polygon_holds z polygon
of_part d A r j closed right [] fits z = absurd fits.order
of_part d A r j closed right (exterior ∷ holes) fits z =
    readings _ (links_arranged d) (test_of (A.left (part r j)) (A.right (part r j))) (links_distinct d)
    (test_agrees d closed _ (part r j) (A.left (part r j)) (A.right (part r j)) (right.sides (part r j))) refl exterior holes fits.uses fits.simple fits.order.0 fits.order.1 z

pub readings_agree : ReadingsAgree
readings_agree d A r polygons h z off k e l =
    at_number (λ (j : ℕ) (p : Polygon). rings_hold z p ≡ polygon_holds z p) polygons 0 (A.parts r)
    (zip_weaker (FitsPartOf (plane_of d) A r) (λ j p. rings_hold z p ≡ polygon_holds z p) (λ j p fits. of_part d A r j h.closed h.right p fits z) (range_with_len 0 (A.parts r)) polygons h.fit.by_parts) k e l

pub polygons_are_apart : PolygonsAreApart
polygons_are_apart d A r polygons h z off i j e less l in_i in_j =
    none_is_held_twice d A r polygons h z off i j e less l (readings_agree d A r polygons h z off i e (omega arith) ∙ in_i) (readings_agree d A r polygons h z off j e l ∙ in_j)

pub regions_are_read : RegionsAreRead
regions_are_read d A r polygons h z off = (
  λ (k, l, held). ((part_at d A r polygons h z off k [] l).0 (readings_agree d A r polygons h z off k [] l ∙ held)).0,
  λ has. (let (k, l, held, others) = joined_points_are_held_by_one d A r polygons h z off has in (k, l, sym (readings_agree d A r polygons h z off k [] l) ∙ held)),
)
