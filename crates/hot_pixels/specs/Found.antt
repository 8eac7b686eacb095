-- Points with all crossings of edges added.
use Rattle.std.specs.Prelude.{◌≡◌, ◌⊎◌, ℕ, ◌<◌, false, List, map, All, Contains, Some, slice_get}
use Rattle.plane_model.specs.Points.{GridPoint, Segment}
use Rattle.plane_model.specs.Pixel.{crossing_pixel}
use Rattle.grid_base.specs.Grid.{IsOnGrid}
use Rattle.bucket_grid.specs.Rects.{RectLists, IsPlaceOf, boxes_near}
use Rattle.hot_pixels.specs.Crossing.{HasGridEnds}
use Rattle.grid_base.specs.Boxes.{box_of}
use Rattle.hot_pixels.specs.Spots.{share_end, crossing_at}

-- two of the edges cross in the pixel of g
pub record IsCrossingOf (edges : List Segment) (g : GridPoint) : Type 0 where
  pub s : Segment
  pub t : Segment
  pub s_there : Contains edges s
  pub t_there : Contains edges t
  pub crosses : crossing_pixel s t ≡ Some g

-- the new points are the old ones and some crossings of the edges
pub record AddsCrossings (edges : List Segment) (old new : List GridPoint) : Type 0 where
  pub kept : (g : GridPoint) → Contains old g → Contains new g
  pub from : (g : GridPoint) → Contains new g → Contains old g ⊎ IsCrossingOf edges g

-- each crossing of two of the edges with these numbers is among the points, unless they have an end in common
pub record HoldCrossings (edges : List Segment) (near : List ℕ) (points : List GridPoint) : Type 0 where
  pub all : (i j : ℕ) (g : GridPoint) → Contains near i → Contains near j → crossing_at edges i j ≡ Some g → Contains points g

-- crossings of the edges with these numbers are added: of all
pub record HasCrossingsAmong (edges : List Segment) (near : List ℕ) (old new : List GridPoint) : Type 0 where
  pub adds : AddsCrossings edges old new
  pub holds : HoldCrossings edges near new

-- the same of the first `count` lists of numbers
pub record HasCrossingsBefore (count : ℕ) (lists : List (List ℕ)) (edges : List Segment) (old new : List GridPoint) : Type 0 where
  pub adds : AddsCrossings edges old new
  pub holds : (place : ℕ) → place < count → (near : List ℕ) → slice_get lists place ≡ Some near → HoldCrossings edges near new

-- crossings of the edges are added: all of those that have no end in common
pub record HasAllCrossings (edges : List Segment) (old new : List GridPoint) : Type 0 where
  pub adds : AddsCrossings edges old new
  pub all : (s t : Segment) (g : GridPoint) → Contains edges s → Contains edges t → share_end s t ≡ false → crossing_pixel s t ≡ Some g → Contains new g

-- a partition of the grid, and for each rectangle the edges whose boxes share a grid point with it
pub record AreBucketsOver (edges : List Segment) (buckets : RectLists) : Type 0 where
  pub on_grid : All HasGridEnds edges
  pub places : (g : GridPoint) → IsOnGrid g → (k : ℕ) × IsPlaceOf buckets.rects g k
  pub near : buckets.near ≡ map (boxes_near (map box_of edges)) buckets.rects
