-- Rectangles that share a grid point: by their sides, and in a part of a rectangle.
use Rattle.std.proofs.Common.{◌≡◌, ℕ, ◌<◌, true, ℤ, ◌≤ℤ◌, int_le, ◌&&◌, List, length, All}
use Rattle.std.proofs.lemmas.List.Elements.{All-same}
use Rattle.bucket_grid.proofs.Numbers.{numbers_where_below}
use Rattle.std.proofs.lemmas.Bool.{and_parts, and_from}
use Rattle.plane_algebra.proofs.Order.{order, order_cases}
use Rattle.plane_algebra.proofs.Tests.{le_from, le_to}
use Rattle.plane_model.specs.Points.{GridPoint}
use Rattle.grid_base.specs.Grid.{Corners}
use Rattle.bucket_grid.specs.Rects.{share_point, boxes_near, SharingIsComputed}

-- neither rectangle is past the other
pub record Overlap (a b : Corners) : Type 0 where
  pub left : a.low.x ≤ℤ b.high.x
  pub right : b.low.x ≤ℤ a.high.x
  pub lower : a.low.y ≤ℤ b.high.y
  pub upper : b.low.y ≤ℤ a.high.y

pub overlap_from : (a b : Corners) → share_point a b ≡ true → Overlap a b
overlap_from a b e =
    let p = and_parts (int_le a.low.x b.high.x && int_le b.low.x a.high.x) (int_le a.low.y b.high.y && int_le b.low.y a.high.y) e in
    let x = and_parts (int_le a.low.x b.high.x) (int_le b.low.x a.high.x) p.0 in
    let y = and_parts (int_le a.low.y b.high.y) (int_le b.low.y a.high.y) p.1 in
    record { left = le_from a.low.x b.high.x x.0; right = le_from b.low.x a.high.x x.1; lower = le_from a.low.y b.high.y y.0; upper = le_from b.low.y a.high.y y.1 }

pub overlap_to : (a b : Corners) → Overlap a b → share_point a b ≡ true
overlap_to a b o = and_from (int_le a.low.x b.high.x && int_le b.low.x a.high.x) (int_le a.low.y b.high.y && int_le b.low.y a.high.y)
    (and_from (int_le a.low.x b.high.x) (int_le b.low.x a.high.x) (le_to a.low.x b.high.x o.left) (le_to b.low.x a.high.x o.right))
    (and_from (int_le a.low.y b.high.y) (int_le b.low.y a.high.y) (le_to a.low.y b.high.y o.lower) (le_to b.low.y a.high.y o.upper))

-- a number in both of two ranges that overlap
both : (a b c d : ℤ) → a ≤ℤ b → c ≤ℤ d → a ≤ℤ d → c ≤ℤ b → (z : ℤ) × (a ≤ℤ z) × (z ≤ℤ b) × (c ≤ℤ z) × (z ≤ℤ d)
both a b c d h k l m = order_cases a c (λ r. (c, r, m, omega order, k)) (λ r. (a, omega order, h, omega order, l))

pub sharing_is_computed : SharingIsComputed
sharing_is_computed a b ordered_a ordered_b = (
  λ e.
      (let o = overlap_from a b e in
      let x = both a.low.x a.high.x b.low.x b.high.x ordered_a.across ordered_b.across o.left o.right in
      let y = both a.low.y a.high.y b.low.y b.high.y ordered_a.upward ordered_b.upward o.lower o.upper in
      let g : GridPoint = record { x = x.0; y = y.0 } in
      (g, record { left = x.1; right = x.2; lower = y.1; upper = y.2 }, record { left = x.3; right = x.4; lower = y.3; upper = y.4 })),
  λ s. overlap_to a b (record {
    left = let u = s.1.left in let v = s.2.right in omega order;
    right = let u = s.2.left in let v = s.1.right in omega order;
    lower = let u = s.1.lower in let v = s.2.upper in omega order;
    upper = let u = s.2.lower in let v = s.1.upper in omega order;
  }),
)

-- the numbers of boxes near a rectangle are numbers of boxes
pub near_below : (boxes : List Corners) (rect : Corners) (near : List ℕ) → near ≡ boxes_near boxes rect → All (λ i. i < length boxes) near
near_below boxes rect near e = All-same (λ i. i < length boxes) near (boxes_near boxes rect) e (numbers_where_below (share_point rect) boxes)
