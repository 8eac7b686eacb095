-- Lists in which the nodes lead each point of the grid to its place.
use Rattle.std.specs.Prelude.{◌≡◌, ℕ, ◌+◌, ◌<◌, ◌^◌, Some, List, length}
use Rattle.plane_model.specs.Points.{GridPoint}
use Rattle.grid_base.specs.Grid.{Corners, IsOnGrid}
use Rattle.bucket_grid.specs.declared.tree.Node.{Node}
use Rattle.bucket_grid.specs.Rects.{IsPlaceOf}
use Rattle.bucket_grid.specs.Tree.{place_from}

pub record LeadsEach (nodes : List Node) (rects : List Corners) (near : List (List ℕ)) (root : ℕ) : Type 0 where
  pub lists : length near ≡ length rects
  pub count : length rects < 2 ^ 32
  pub leads : (g : GridPoint) → IsOnGrid g → (k : ℕ) × (place_from 43 nodes root g ≡ Some k) × IsPlaceOf rects g k

-- after `step` steps, at this node, g is still on the way to its place
pub record IsOnWay (nodes : List Node) (rects : List Corners) (g : GridPoint) (node step : ℕ) : Type 0 where
  pub left : ℕ
  pub place : ℕ
  pub counted : left + step ≡ 43
  pub leads : place_from left nodes node g ≡ Some place
  pub is_place : IsPlaceOf rects g place
