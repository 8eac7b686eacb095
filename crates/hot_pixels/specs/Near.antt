-- Runs of points, each with a rectangle that holds it, so that a search may pass over a run.
use Rattle.std.specs.Prelude.{◌≡◌, ℕ, ◌<◌, ◌≤◌, false, List, length, slice_index_or, AllPairs, IsTrue, All, ℤ, int_lt, Bool, ◌&&◌, ◌||◌}
use Rattle.std.specs.List.Sorted.{IsPermutation}
use Rattle.plane_model.specs.Points.{GridPoint, Segment, is_before}
use Rattle.plane_model.specs.Pixel.{meets}
use Rattle.grid_base.specs.Grid.{Corners}
use Rattle.bucket_grid.specs.Rects.{Holds}
use Rattle.hot_pixels.specs.declared.near.Run.{Run}

-- the rectangle holds each point from place start to below stop
pub record HoldsBetween (rect : Corners) (points : List GridPoint) (start stop : ℕ) : Type 0 where
  pub held : (k : ℕ) (d : GridPoint) → start ≤ k → k < stop → Holds rect (slice_index_or points k d)

-- the wide rectangle holds p, and what the rectangle holds
pub record HoldsMore (rect : Corners) (p : GridPoint) (wide : Corners) : Type 0 where
  pub point : Holds wide p
  pub others : (g : GridPoint) → Holds rect g → Holds wide g

-- a and b are both below low, or both above high
abbrev pub is_outside : ℤ → ℤ → ℤ → ℤ → Bool
is_outside a b low high = (int_lt a low && int_lt b low) || (int_lt high a && int_lt high b)

-- the run is one of these points
pub record HoldsRun (points : List GridPoint) (r : Run) : Type 0 where
  pub stop : r.stop ≤ length points
  pub held : HoldsBetween r.rect points r.start r.stop

-- s meets no point from place start to below stop
pub record MeetsNoneBetween (s : Segment) (points : List GridPoint) (start stop : ℕ) : Type 0 where
  pub none : (k : ℕ) (d : GridPoint) → start ≤ k → k < stop → meets s (slice_index_or points k d) ≡ false

-- the points of a set, ascending; the same points in an order of their own; and runs of these
pub record IsSearchable (points order : List GridPoint) (runs : List Run) : Type 0 where
  pub up : AllPairs (λ p q. IsTrue (is_before p q)) points
  pub moved : IsPermutation points order
  pub held : All (HoldsRun order) runs
