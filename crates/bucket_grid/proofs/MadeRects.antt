-- Points and rectangles that could be made; strips of a rectangle.
use Rattle.std.proofs.Common.{◌≡◌, ◌∙◌, sym, ap, Bool, true, false, cond, Option, Some, None, IfSome, ℤ, int_le, ◌&&◌}
use Rattle.plane_model.specs.Points.{GridPoint}
use Rattle.grid_base.specs.Grid.{Corners, corners_of, grid_point, is_on_grid}
use Rattle.bucket_grid.specs.declared.tree.Axis.{Axis}
use Rattle.bucket_grid.specs.declared.tree.Axis.TheVariants.{Across, Upward}
use Rattle.bucket_grid.specs.Slabs.{strip}

made : {A : Type 0} (b : Bool) (x y : A) → Some y ≡ cond b (Some x) None → y ≡ x
made true x y e = cc
made false x y e = absurd cc

pub point_made : (x y : ℤ) (p : GridPoint) → Some p ≡ grid_point x y → p ≡ record { x = x; y = y }
point_made x y p e = made (is_on_grid (record { x = x; y = y })) (record { x = x; y = y }) p e

pub corners_made : (p q : GridPoint) (r : Corners) → Some r ≡ corners_of p q → r ≡ record { low = p; high = q }
corners_made p q r e = made (int_le p.x q.x && int_le p.y q.y) (record { low = p; high = q }) r e

pub across_made : (rect : Corners) (axis : Axis) (low high u v : ℤ) (p q : GridPoint) (o : Option Corners) → axis ≡ Across → u ≡ rect.low.y → v ≡ rect.high.y →
    Some p ≡ grid_point low u → Some q ≡ grid_point high v → o ≡ corners_of p q → IfSome o (λ r. r ≡ strip axis low high rect)
across_made rect axis low high u v p q None a e f g h k = tt
across_made rect axis low high u v p q (Some r) a e f g h k =
    let p_is : p ≡ record { x = low; y = rect.low.y } = point_made low u p g ∙ (λ i. record { x = low; y = e i }) in
    let q_is : q ≡ record { x = high; y = rect.high.y } = point_made high v q h ∙ (λ i. record { x = high; y = f i }) in
    corners_made p q r k ∙ (λ i. record { low = p_is i; high = q_is i }) ∙ ap (λ (x : Axis). strip x low high rect) (sym a)

pub upward_made : (rect : Corners) (axis : Axis) (low high u v : ℤ) (p q : GridPoint) (o : Option Corners) → axis ≡ Upward → u ≡ rect.low.x → v ≡ rect.high.x →
    Some p ≡ grid_point u low → Some q ≡ grid_point v high → o ≡ corners_of p q → IfSome o (λ r. r ≡ strip axis low high rect)
upward_made rect axis low high u v p q None a e f g h k = tt
upward_made rect axis low high u v p q (Some r) a e f g h k =
    let p_is : p ≡ record { x = rect.low.x; y = low } = point_made u low p g ∙ (λ i. record { x = e i; y = low }) in
    let q_is : q ≡ record { x = rect.high.x; y = high } = point_made v high q h ∙ (λ i. record { x = f i; y = high }) in
    corners_made p q r k ∙ (λ i. record { low = p_is i; high = q_is i }) ∙ ap (λ (x : Axis). strip x low high rect) (sym a)
