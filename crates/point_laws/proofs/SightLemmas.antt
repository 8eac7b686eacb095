-- What sees a point that lies on no link, and that some point does.
use Rattle.std.proofs.Common.{◌≡◌, arith, List}
use Rattle.std.proofs.Math.IntN.{ℤ, pos, neg_ℤ}
use Rattle.std.specs.Prelude.{◌<ℤ◌}
use Rattle.std.proofs.lemmas.Int.{ints}
use Rattle.plane_model.specs.Points.{GridPoint, RationalPoint, Segment, step_x, at}
use Rattle.plane_model.specs.Arrangement.{IsFree}
use Rattle.plane_model.specs.Parity.{links_of_paths}
use Rattle.plane_model.specs.Sees.{IsOffLinks, SeesPoint}
use Rattle.plane_parity.proofs.Cut.{IsOnSegment-swap}
use Rattle.plane_parity.proofs.Determinant.{step_x-swap}
use Rattle.plane_parity.proofs.FreeSegment.{same_parity}
use Rattle.plane_parity.proofs.AlongLink.{IsOnSegment-first}
use Rattle.plane_parity.proofs.Sight.{IsOnSegment-moved}
use Rattle.plane_parity.proofs.SnappedRings.{closed_runs_are_even_lists}
use Rattle.point_laws.specs.Sight.{SeenFromOneFace, FreePointsAreSeen}
use Rattle.plane_parity.proofs.NearPoint.{free_to_right}

-- a link that the sight met would pass through the point
pub sight_is_free : (S : List Segment) (p : GridPoint) → IsOffLinks S (at p) → (z : RationalPoint) → SeesPoint S p z → IsFree S z (at p)
sight_is_free S p off z sees l c w on onl = off l c (IsOnSegment-moved (at l.start) (at l.stop) w (at p) (sees.1 l c w on onl) onl)

-- what sees a point lies on no link
pub seeing_is_off : (S : List Segment) (p : GridPoint) (z : RationalPoint) → SeesPoint S p z → IsOffLinks S z
seeing_is_off S p z sees l c onl = sees.0 (sees.1 l c z (IsOnSegment-first z (at p)) onl)

pub seen_from_one_face : SeenFromOneFace
seen_from_one_face S arr p off z sees runs closed =
    let even = closed_runs_are_even_lists S runs closed in
    same_parity S (links_of_paths runs) arr even.within even.even z (at p) (sight_is_free S p off z sees)

pub free_points_are_seen : FreePointsAreSeen
free_points_are_seen S arr p off =
    let (z, right, free) = free_to_right S arr (at p) off in
    let sees : SeesPoint S p z = (
      λ same. apart (step_x (at p) z) (step_x z (at p)) (step_x-swap z (at p)) right same.0,
      λ l c w on onl. absurd (free l c w (IsOnSegment-swap z (at p) w on) onl),
    ) in
    (z, sees, seeing_is_off S p z sees)
  where
    apart : (a b : ℤ) → b ≡ neg_ℤ a → pos 0 <ℤ a → b ≡ pos 0 → ⊥
    apart a b e h k = omega (arith, ints)
