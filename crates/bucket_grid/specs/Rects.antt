-- Rectangles of grid points, which boxes share a point with one, and lists of rectangles in which each point has one
-- place.
use Rattle.std.specs.Prelude.{◌≡◌, ◌↔◌, ℕ, ◌<◌, ◌≤ℤ◌, int_le, Bool, ◌&&◌, IsTrue, List, length, slice_index_or}
use Rattle.lists.specs.Lists.{numbers_where}
use Rattle.plane_model.specs.Points.{GridPoint}
use Rattle.grid_base.specs.Grid.{Corners, IsAtMost, greatest, least}

-- g lies in the rectangle
pub record Holds (rect : Corners) (g : GridPoint) : Type 0 where
  pub left : rect.low.x ≤ℤ g.x
  pub right : g.x ≤ℤ rect.high.x
  pub lower : rect.low.y ≤ℤ g.y
  pub upper : g.y ≤ℤ rect.high.y

-- some grid point lies in both rectangles
abbrev pub SharePoint : Corners → Corners → Type 0
SharePoint a b = (g : GridPoint) × Holds a g × Holds b g

-- all of the grid
abbrev pub whole : Corners
whole = record { low = record { x = least; y = least }; high = record { x = greatest; y = greatest } }

-- g lies in the rectangle at this place, and in no other
pub record IsPlaceOf (rects : List Corners) (g : GridPoint) (place : ℕ) : Type 0 where
  pub below : place < length rects
  pub held : (d : Corners) → Holds (slice_index_or rects place d) g
  pub only : (k : ℕ) (d : Corners) → k < length rects → Holds (slice_index_or rects k d) g → k ≡ place

-- a partition, as its rectangles and, for each, the numbers of the boxes near it
pub record RectLists : Type 0 where
  pub rects : List Corners
  pub near : List (List ℕ)

-- ---- the same, computed

abbrev pub share_point : Corners → Corners → Bool
share_point a b = (int_le a.low.x b.high.x && int_le b.low.x a.high.x) && (int_le a.low.y b.high.y && int_le b.low.y a.high.y)

-- the numbers of the boxes that share a grid point with a rectangle, ascending
abbrev pub boxes_near : List Corners → Corners → List ℕ
boxes_near boxes rect = numbers_where (share_point rect) boxes

-- ---- law

-- the computed test of two rectangles says what the definition says
abbrev pub SharingIsComputed : Type 0
SharingIsComputed = (a b : Corners) → IsAtMost a.low a.high → IsAtMost b.low b.high → IsTrue (share_point a b) ↔ SharePoint a b
