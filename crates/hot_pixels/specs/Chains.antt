-- A list of points as the hot points of a drawing, and points sorted along a segment.
use Rattle.std.specs.Prelude.{◌≡◌, ℕ, ◌+◌, ◌<◌, ◌<ℤ◌, List, ◌++◌, length, drop, slice_index_or}
use Rattle.std.specs.List.Sorted.{IsPermutation, IsSortedByKey}
use Rattle.std.specs.Ordering.{int_cmp}
use Rattle.lists.specs.Lists.{ascending}
use Rattle.plane_model.specs.Points.{GridPoint, Segment, is_before}
use Rattle.plane_model.specs.Drawing.{Drawing}
use Rattle.plane_model.specs.Hot.{hot_points, order_key}

-- the points are the hot points of d, ascending
abbrev pub AreHotPointsOf : Drawing → List GridPoint → Type 0
AreHotPointsOf d points = points ≡ ascending is_before (hot_points d)

-- the same points, in the order of their keys along s
pub record AreSortedAlong (s : Segment) (points sorted : List GridPoint) : Type 0 where
  pub moved : IsPermutation points sorted
  pub in_order : IsSortedByKey (order_key s) int_cmp sorted

-- the key along s of each point is below that of the next
pub record DoRise (s : Segment) (points : List GridPoint) : Type 0 where
  pub rise : (k : ℕ) (d : GridPoint) → k + 1 < length points → order_key s (slice_index_or points k d) <ℤ order_key s (slice_index_or points (k + 1) d)

-- the points but the first are appended in such an order that their keys along s rise
pub record GoesRising (s : Segment) (old points new : List GridPoint) : Type 0 where
  pub sorted : List GridPoint
  pub moved : IsPermutation points sorted
  pub rise : DoRise s sorted
  pub appended : new ≡ old ++ drop 1 sorted
