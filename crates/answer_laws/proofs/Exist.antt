-- Whether a region has a point can be told, region by region, so the plane of a drawing has right answers.
use Rattle.std.proofs.Common.{◌≡◌, inr, ℕ, Bool, true, List, [], ◌∷◌, Contains, get_or}
use Rattle.std.specs.Prelude.{◌↔◌}
use Rattle.region_laws.proofs.Walked.{links_arranged, links_distinct}
use Rattle.plane_model.specs.Points.{GridPoint, RationalPoint, Segment, Path}
use Rattle.plane_model.specs.Arcs.{arcs_of}
use Rattle.plane_model.specs.Drawing.{Drawing, vertices_of}
use Rattle.plane_model.specs.Joined.{links_of_arc}
use Rattle.plane_model.specs.Parity.{feature_holds, rings_hold}
use Rattle.plane_model.specs.Sides.{IsInside}
use Rattle.plane_model.specs.Snapped.{links_of, snapped}
use Rattle.plane_model.specs.SnappedRings.{HasClosedRings}
use Rattle.region_model.specs.Region.{Region, Regions, feature, box, any, both, less, part, gap, no_regions, one_more, Has, SomeHas, IsInGap, IsInPart}
use Rattle.region_model.specs.Answers.{AreSides, RightAnswersExist}
use Rattle.printed_laws.proofs.ArcSides.{arc_sides}
use Rattle.printed_laws.proofs.Constant.{has_face, some_face}
use Rattle.answer_laws.proofs.Deciding.{IsTold, both_told, either_told, not_told, test_told, tested}
use Rattle.answer_laws.proofs.FaceSets.{IsFaceSet, label, labelling, points_told, sides_tested}
use Rattle.answer_laws.proofs.Insides.{inside_told}
use Rattle.answer_laws.proofs.Numbers.{ArePlaces}
use Rattle.answer_laws.proofs.Parts.{gaps_told, parts_told}

-- the links of arcs are links of the drawing
pub links_of_arcs : (d : Drawing) (n : ℕ) (l : Segment) → Contains (links_of_arc (arcs_of (snapped d) (links_of (snapped d))) n) l → Contains (links_of (snapped d)) l
links_of_arcs d n l c =
    let S : List Segment = links_of (snapped d) in
    let (a, b, sides) = arc_sides (snapped d) (links_arranged d) (label S (links_arranged d) (links_distinct d)) (labelling S (links_arranged d) (links_distinct d)).agrees n in
    (sides l c).0

module _ (d : Drawing) (closed : HasClosedRings d) where
  abbrev S : List Segment
  S = links_of (snapped d)

  abbrev arcs : List Path
  arcs = arcs_of (snapped d) (links_of (snapped d))

  abbrev HasIt : Region → RationalPoint → Type 0
  HasIt r z = Has (snapped d) (arcs_of (snapped d) (links_of (snapped d))) r z

  abbrev SomeHasIt : Regions → RationalPoint → Type 0
  SomeHasIt rs z = SomeHas (snapped d) (arcs_of (snapped d) (links_of (snapped d))) rs z

  -- the parts of a region, and the gaps between some, once points are told
  parts_by : (r : Region) → ((z : RationalPoint) → IsTold (HasIt r z)) → (count : ℕ) × ArePlaces S (HasIt r) (IsInPart S arcs (HasIt r)) count
  parts_by r told = parts_told S (links_arranged d) (links_distinct d) arcs (links_of_arcs d) (HasIt r) (record { told = told; faces = has_face d closed arcs r })

  gaps_by : (rs : Regions) → ((z : RationalPoint) → IsTold (SomeHasIt rs z)) → (count : ℕ) × ArePlaces S (λ z. SomeHasIt rs z → ⊥) (IsInGap S arcs (SomeHasIt rs)) count
  gaps_by rs told = gaps_told S (links_arranged d) (links_distinct d) arcs (links_of_arcs d) (SomeHasIt rs) (record { told = told; faces = some_face d closed arcs rs })

  mutual
    pub has_told : (r : Region) (z : RationalPoint) → IsTold (HasIt r z)
    has_told (feature n) z = test_told (feature_holds z (get_or (snapped d).polygons n []))
    has_told (box n) z = test_told (rings_hold z (get_or (snapped d).boxes n [] ∷ []))
    has_told (any rs) z = some_has_told rs z
    has_told (both r s) z = both_told (has_told r z) (has_told s z)
    has_told (less r s) z = both_told (has_told r z) (not_told (has_told s z))
    has_told (part r j) z = (parts_by r (λ w. has_told r w)).1.told z j
    has_told (gap rs j) z = (gaps_by rs (λ w. some_has_told rs w)).1.told z j

    pub some_has_told : (rs : Regions) (z : RationalPoint) → IsTold (SomeHasIt rs z)
    some_has_told no_regions z = inr (λ none. none)
    some_has_told (one_more r rs) z = either_told (has_told r z) (some_has_told rs z)

  region_set : (r : Region) → IsFaceSet S (HasIt r)
  region_set r = record { told = has_told r; faces = has_face d closed arcs r }

  sides : (r : Region) → (left : Segment → Bool) × (right : Segment → Bool) × AreSides S (HasIt r) left right
  sides r = sides_tested S (links_arranged d) (links_distinct d) (HasIt r) (region_set r)

  insides : (r : Region) → (f : GridPoint → Bool) × ((p : GridPoint) → Contains (vertices_of (snapped d)) p → (f p ≡ true) ↔ IsInside S (HasIt r) p)
  insides r = tested points_told (IsInside S (HasIt r)) (vertices_of (snapped d)) (λ p vertex. inside_told d (HasIt r) (region_set r) p vertex)

pub right_answers_exist : RightAnswersExist
right_answers_exist d closed = (
  record {
    left = λ r. (sides d closed r).0;
    right = λ r. (sides d closed r).1;
    inside = λ r. (insides d closed r).0;
    parts = λ r. (parts_by d closed r (has_told d closed r)).0;
    gaps = λ rs. (gaps_by d closed rs (some_has_told d closed rs)).0;
  },
  record {
    sides = λ r. (sides d closed r).2;
    inside = λ r p vertex. (insides d closed r).1 p vertex;
    parts = λ r j. (parts_by d closed r (has_told d closed r)).1.below j;
    gaps = λ rs j. (gaps_by d closed rs (some_has_told d closed rs)).1.below j;
  },
)
