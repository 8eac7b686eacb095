-- The pixel by shares is the pixel of the crossing, and lies on the grid.
use Rattle.std.proofs.Common.{◌≡◌, refl, sym, ap, ◌∙◌, subst, arith, ℕ, suc, ◌≤◌, Bool, true, false, cond, ◌&&◌, Option, Some, None, ℤ, pos, negsuc, ◌-ℤ◌, neg_ℤ, ◌≤ℤ◌, ◌<ℤ◌, int_lt, int_le, unsigned_abs, IsTrue, inl, inr}
use Rattle.std.proofs.lemmas.Int.{ints}
use Rattle.std.proofs.lemmas.Bool.{and_parts, and_from}
use Rattle.plane_algebra.proofs.Order.{order}
use Rattle.plane_algebra.proofs.Tests.{le_from, le_to, lt_to}
use Rattle.plane_model.specs.Points.{GridPoint, Segment, cross, SameWay}
use Rattle.plane_model.specs.Pixel.{crossing_pixel, rounded, with_sign}
use Rattle.plane_model.specs.Pixel.{IsInBox}
use Rattle.plane_snapping.proofs.Boxes.{crossings_lie_in_both_boxes}
use Rattle.grid_base.specs.Grid.{IsOnGrid, is_grid_number, greatest, least}
use Rattle.grid_base.specs.Sizes.{IsGridNumber}
use Rattle.hot_pixels.specs.Crossing.{is_share, pixel_by, HasGridEnds}

pub pos_is : (w : ℤ) → pos 0 <ℤ w → w ≡ pos (unsigned_abs w)
pos_is (pos n) h = refl
pos_is (negsuc n) h = absurd (omega order)

abbrev point_by : Segment → ℕ → ℤ → GridPoint
point_by s w p = record { x = rounded s.start.x (s.stop.x -ℤ s.start.x) p w; y = rounded s.start.y (s.stop.y -ℤ s.start.y) p w }

pub no_first : (s : Segment) (w p q : ℤ) → pos 0 <ℤ w → is_share p w ≡ false → None ≡ pixel_by s (unsigned_abs w) p q
no_first s w p q h e =
    let f : is_share p (pos (unsigned_abs w)) ≡ false = subst (λ (v : ℤ). is_share p v ≡ false) (pos_is w h) e in
    sym (ap (λ (b : Bool). cond (b && is_share q (pos (unsigned_abs w))) (Some (point_by s (unsigned_abs w) p)) None) f)

pub no_second : (s : Segment) (w p q : ℤ) → pos 0 <ℤ w → is_share p w ≡ true → is_share q w ≡ false → None ≡ pixel_by s (unsigned_abs w) p q
no_second s w p q h d e =
    let g : is_share p (pos (unsigned_abs w)) ≡ true = subst (λ (v : ℤ). is_share p v ≡ true) (pos_is w h) d in
    let f : is_share q (pos (unsigned_abs w)) ≡ false = subst (λ (v : ℤ). is_share q v ≡ false) (pos_is w h) e in
    sym (ap (λ (b : Bool). cond (b && is_share q (pos (unsigned_abs w))) (Some (point_by s (unsigned_abs w) p)) None) g ∙ ap (λ (b : Bool). cond b (Some (point_by s (unsigned_abs w) p)) None) f)

pub both_shares : (s : Segment) (w p q : ℤ) → pos 0 <ℤ w → is_share p w ≡ true → is_share q w ≡ true →
    pixel_by s (unsigned_abs w) p q ≡ Some (record { x = rounded s.start.x (s.stop.x -ℤ s.start.x) p (unsigned_abs w); y = rounded s.start.y (s.stop.y -ℤ s.start.y) p (unsigned_abs w) })
both_shares s w p q h d e =
    let g : is_share p (pos (unsigned_abs w)) ≡ true = subst (λ (v : ℤ). is_share p v ≡ true) (pos_is w h) d in
    let f : is_share q (pos (unsigned_abs w)) ≡ true = subst (λ (v : ℤ). is_share q v ≡ true) (pos_is w h) e in
    ap (λ (b : Bool). cond (b && is_share q (pos (unsigned_abs w))) (Some (point_by s (unsigned_abs w) p)) None) g ∙ ap (λ (b : Bool). cond b (Some (point_by s (unsigned_abs w) p)) None) f

-- ---- the sign that makes the denominator positive

abbrev crossing_by : Segment → ℤ → ℤ → ℤ → Option GridPoint
crossing_by s c p q =
    cond (int_lt (pos 0) (pos (unsigned_abs c)) && (int_le (pos 0) (with_sign c p) && int_le (with_sign c p) (pos (unsigned_abs c))) && (int_le (pos 0) (with_sign c q) && int_le (with_sign c q) (pos (unsigned_abs c))))
    (Some (point_by s (unsigned_abs c) (with_sign c p))) None

-- the denominator is above 0
above : (s : Segment) (b : Bool) (w : ℕ) (p q : ℤ) → b ≡ true → cond (b && is_share p (pos w) && is_share q (pos w)) (Some (point_by s w p)) None ≡ pixel_by s w p q
above s b w p q e = ap (λ (t : Bool). cond (t && is_share p (pos w) && is_share q (pos w)) (Some (point_by s w p)) None) e

positive_is : (s : Segment) (c p q : ℤ) → pos 0 <ℤ c → crossing_by s c p q ≡ pixel_by s (unsigned_abs c) p q
positive_is s (pos n) p q h = above s (int_lt (pos 0) (pos n)) n p q (lt_to (pos 0) (pos n) h)
positive_is s (negsuc n) p q h = absurd (omega order)

negative_is : (s : Segment) (c p q : ℤ) → c <ℤ pos 0 → crossing_by s c p q ≡ pixel_by s (unsigned_abs (pos 0 -ℤ c)) (pos 0 -ℤ p) (pos 0 -ℤ q)
negative_is s (pos n) p q h = absurd (omega order)
negative_is s (negsuc n) p q h =
    let e : suc n ≡ unsigned_abs (pos 0 -ℤ negsuc n) = omega (arith, ints) in
    let f : neg_ℤ p ≡ pos 0 -ℤ p = omega order in
    let g : neg_ℤ q ≡ pos 0 -ℤ q = omega order in
    above s (int_lt (pos 0) (pos (suc n))) (suc n) (neg_ℤ p) (neg_ℤ q) (lt_to (pos 0) (pos (suc n)) (omega order)) ∙ (λ i. pixel_by s (e i) (f i) (g i))

-- ---- the crossing of two segments

abbrev between : Segment → Segment → Segment
between s t = record { start = s.start; stop = t.start }

pub crossing_positive : (s t : Segment) (w p q : ℤ) → pos 0 <ℤ w → w ≡ cross s t → p ≡ cross (between s t) t → q ≡ cross (between s t) s → pixel_by s (unsigned_abs w) p q ≡ crossing_pixel s t
crossing_positive s t w p q h e f g = sym (positive_is s w p q h) ∙ (λ i. crossing_by s (e i) (f i) (g i))

pub crossing_negative : (s t : Segment) (w p q : ℤ) → w <ℤ pos 0 → w ≡ cross s t → p ≡ cross (between s t) t → q ≡ cross (between s t) s →
    pixel_by s (unsigned_abs (pos 0 -ℤ w)) (pos 0 -ℤ p) (pos 0 -ℤ q) ≡ crossing_pixel s t
crossing_negative s t w p q h e f g = sym (negative_is s w p q h) ∙ (λ i. crossing_by s (e i) (f i) (g i))

within : (low high p q g : ℤ) → (low ≤ℤ p) × (p ≤ℤ high) → (low ≤ℤ q) × (q ≤ℤ high) → SameWay (g -ℤ p) (q -ℤ g) → (low ≤ℤ g) × (g ≤ℤ high)
within low high p q g a b (inl w) = let a₀ = a.0 in let b₁ = b.1 in let w₀ = w.0 in let w₁ = w.1 in (omega order, omega order)
within low high p q g a b (inr w) = let a₁ = a.1 in let b₀ = b.0 in let w₀ = w.0 in let w₁ = w.1 in (omega order, omega order)

-- what lies in the box of a segment of the grid lies on the grid
pub box_on_grid : (s : Segment) (g : GridPoint) → HasGridEnds s → IsInBox s g → IsOnGrid g
box_on_grid s g h b =
    let x = within least greatest s.start.x s.stop.x g.x (h.start.x_low, h.start.x_high) (h.stop.x_low, h.stop.x_high) b.0 in
    let y = within least greatest s.start.y s.stop.y g.y (h.start.y_low, h.start.y_high) (h.stop.y_low, h.stop.y_high) b.1 in
    record { x_low = x.0; x_high = x.1; y_low = y.0; y_high = y.1 }

pub crossing_on_grid : (s t : Segment) → HasGridEnds s → (g : GridPoint) → crossing_pixel s t ≡ Some g → IsOnGrid g
crossing_on_grid s t h g e = box_on_grid s g h (crossings_lie_in_both_boxes s t g e).0

-- ---- numbers of the grid

pub number_from : (v : ℤ) → IsTrue (is_grid_number v) → IsGridNumber v
number_from v e =
    let h = and_parts (int_le least v) (int_le v greatest) e in
    let l = le_from least v h.0 in
    let u = le_from v greatest h.1 in
    omega (arith, ints)

pub number_to : (v : ℤ) → least ≤ℤ v → v ≤ℤ greatest → IsTrue (is_grid_number v)
number_to v l u = and_from (int_le least v) (int_le v greatest) (le_to least v l) (le_to v greatest u)

pub share_bound : (p w : ℤ) (m : ℕ) → is_share p w ≡ true → unsigned_abs w ≤ m → unsigned_abs p ≤ m
share_bound p w m e b =
    let h = and_parts (int_le (pos 0) p) (int_le p w) e in
    let l = le_from (pos 0) p h.0 in
    let u = le_from p w h.1 in
    omega (arith, ints)
