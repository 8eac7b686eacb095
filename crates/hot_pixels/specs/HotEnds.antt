-- The hot points of a drawing and its edges, which end at such points.
use Rattle.std.specs.Prelude.{◌≡◌, ◌⊎◌, List, Contains}
use Rattle.plane_model.specs.Points.{GridPoint, Segment}
use Rattle.hot_pixels.specs.Marking.{IsEndOf}

pub record PointsAndEdges : Type 0 where
  pub points : List GridPoint
  pub edges : List Segment

-- the ends of each edge are among the points
pub record HaveHotEnds (points : List GridPoint) (edges : List Segment) : Type 0 where
  pub start : (e : Segment) → Contains edges e → Contains points e.start
  pub stop : (e : Segment) → Contains edges e → Contains points e.stop

-- the points are the ends of the edges
pub record AreEndsOf (edges : List Segment) (points : List GridPoint) : Type 0 where
  pub from : (p : GridPoint) → Contains points p → (e : Segment) × Contains edges e × IsEndOf e p
  pub ends : HaveHotEnds points edges

-- p is among the new points, which are the old ones and p
pub record AddsEnd (p : GridPoint) (old new : List GridPoint) : Type 0 where
  pub kept : (q : GridPoint) → Contains old q → Contains new q
  pub from : (q : GridPoint) → Contains new q → Contains old q ⊎ (q ≡ p)
  pub there : Contains new p
