-- A division of a rectangle, with the boxes in each of its slabs.
use Rattle.std.specs.Prelude.{ℕ, List}
use Rattle.grid_base.specs.Grid.{Corners}
use Rattle.bucket_grid.specs.declared.growing.Division.{Division}
use Rattle.bucket_grid.specs.Slabs.{AreListed, DividesRect}

pub record IsDivisionOf (boxes : List Corners) (rect : Corners) (near : List ℕ) (division : Division) : Type 0 where
  pub divides : DividesRect rect division.slabs
  pub listed : AreListed division.slabs boxes near division.lists.items
