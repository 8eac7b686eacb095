-- The corners of the least rectangle that holds two points of the grid: they lie on the grid, in order.
use Rattle.std.proofs.Common.{◌≡◌, refl, ℤ, ◌≤ℤ◌, Bool, true, false, cond, int_le, arith}
use Rattle.std.proofs.lemmas.Int.{ints}
use Rattle.plane_model.specs.Points.{GridPoint}
use Rattle.grid_base.specs.Grid.{IsAtMost, IsOnGrid, greatest, least}
use Rattle.grid_base.specs.Boxes.{lesser, greater, lower_left, upper_right}

chosen : (P : ℤ → Type 0) (t : Bool) (a b : ℤ) → P a → P b → P (cond t a b)
chosen P true a b h k = h
chosen P false a b h k = k

-- a point with the x of one of two points and the y of one of them
pub mixed_on_grid : (t u : Bool) (p q : GridPoint) → IsOnGrid p → IsOnGrid q → IsOnGrid (record { x = cond t p.x q.x; y = cond u p.y q.y })
mixed_on_grid t u p q h k = record {
  x_low = chosen (λ v. least ≤ℤ v) t p.x q.x h.x_low k.x_low;
  x_high = chosen (λ v. v ≤ℤ greatest) t p.x q.x h.x_high k.x_high;
  y_low = chosen (λ v. least ≤ℤ v) u p.y q.y h.y_low k.y_low;
  y_high = chosen (λ v. v ≤ℤ greatest) u p.y q.y h.y_high k.y_high;
}

at_most : (a b : ℤ) → lesser a b ≤ℤ greater a b
at_most a b = go (int_le a b) refl
  where
    go : (t : Bool) → int_le a b ≡ t → cond t a b ≤ℤ cond t b a
    go true e = omega (arith, ints)
    go false e = omega (arith, ints)

pub corners_in_order : (p q : GridPoint) → IsAtMost (lower_left p q) (upper_right p q)
corners_in_order p q = record { across = at_most p.x q.x; upward = at_most p.y q.y }
