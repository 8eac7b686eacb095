-- What a search may pass over, and rectangles that grow.
use Rattle.std.proofs.Common.{◌≡◌, inl, inr, refl, sym, ap, ◌∙◌, subst, arith, ℕ, zero, suc, ◌+◌, ◌-◌, ◌<◌, ◌≤◌, Bool, true, false, ◌&&◌, cond, List, [], ◌∷◌, ◌++◌, length, get_or, take, filter, ℤ, ◌≤ℤ◌, ◌<ℤ◌, ◌-ℤ◌, int_le}
use Rattle.std.specs.Prelude.{int_lt, Option, Some, None}
use Rattle.std.proofs.lemmas.Bool.{cases_lt, and_parts}
use Rattle.std.specs.List.{count_by}
use Rattle.std.proofs.lemmas.List.{append-nil, get_or_default}
use Rattle.std.proofs.lemmas.List.Elements.{filter_more}
use Rattle.std.proofs.lemmas.List.Sums.{length-filter}
use Rattle.plane_algebra.proofs.Order.{order, order_cases}
use Rattle.plane_algebra.proofs.Tests.{by_test, le_from, le_to, lt_from, or_cases}
use Rattle.plane_model.specs.Points.{GridPoint, Segment, SameWay}
use Rattle.plane_model.specs.Pixel.{meets, crossing_pixel, IsInBox}
use Rattle.plane_snapping.proofs.Boxes.{met_pixels_lie_in_the_box, crossings_lie_in_both_boxes}
use Rattle.plane_snapping.proofs.MeetsComputed.{meets_is_computed}
use Rattle.grid_base.specs.Grid.{Corners}
use Rattle.bucket_grid.specs.Rects.{Holds}
use Rattle.grid_base.specs.Boxes.{lesser, greater, box_of}
use Rattle.hot_pixels.specs.Near.{HoldsMore, HoldsBetween, MeetsNoneBetween, is_outside}
use Rattle.hot_pixels.proofs.CrossingLemmas.{box_holds}

record IsBetween (a b : ℤ) : Type 0 where
  low_left : lesser a b ≤ℤ a
  low_right : lesser a b ≤ℤ b
  high_left : a ≤ℤ greater a b
  high_right : b ≤ℤ greater a b

chosen : (a b : ℤ) (t : Bool) → int_le a b ≡ t → (cond t a b ≤ℤ a) × (cond t a b ≤ℤ b) × (a ≤ℤ cond t b a) × (b ≤ℤ cond t b a)
chosen a b true e = let l = le_from a b e in (omega order, l, l, omega order)
chosen a b false e =
    let l : b ≤ℤ a = order_cases a b (λ r. absurd (let t : true ≡ false = sym (le_to a b r) ∙ e in cc)) (λ r. omega order) in
    (l, omega order, omega order, l)

between : (a b : ℤ) → IsBetween a b
between a b = let h = chosen a b (int_le a b) refl in record { low_left = h.0; low_right = h.1; high_left = h.2; high_right = h.3 }

pub grown : (rect wide : Corners) (p : GridPoint) → wide ≡ record { low = (box_of (record { start = rect.low; stop = p })).low; high = (box_of (record { start = rect.high; stop = p })).high } → HoldsMore rect p wide
grown rect wide p e = subst (HoldsMore rect p) (sym e) (
    let lx = between rect.low.x p.x in
    let ly = between rect.low.y p.y in
    let hx = between rect.high.x p.x in
    let hy = between rect.high.y p.y in
    record {
      point = record { left = lx.low_right; right = hx.high_right; lower = ly.low_right; upper = hy.high_right };
      others = λ g h.
          let a = lx.low_left in let b = ly.low_left in let c = hx.high_left in let d = hy.high_left in
          let i = h.left in let j = h.right in let k = h.lower in let l = h.upper in
          record { left = omega order; right = omega order; lower = omega order; upper = omega order };
    })

module _ (s : Segment) (xs : List GridPoint) (d : GridPoint) where
  passed_by : (from n : ℕ) → from + n ≤ length xs → ((k : ℕ) → from ≤ k → k < from + n → meets s (get_or xs k d) ≡ false) → filter (meets s) (take (from + n) xs) ≡ filter (meets s) (take from xs)
  passed_by from zero l none = ap (λ (k : ℕ). filter (meets s) (take k xs)) (omega arith)
  passed_by from (suc n) l none =
      ap (λ (k : ℕ). filter (meets s) (take k xs)) (omega arith)
      ∙ filter_more (meets s) xs (from + n) d (omega arith)
      ∙ ap (λ (t : Bool). filter (meets s) (take (from + n) xs) ++ cond t (get_or xs (from + n) d ∷ []) []) (none (from + n) (omega arith) (omega arith))
      ∙ append-nil (filter (meets s) (take (from + n) xs))
      ∙ passed_by from n (omega arith) (λ k a b. none k a (omega arith))

  pub none_met : (from stop : ℕ) → from ≤ stop → stop ≤ length xs → MeetsNoneBetween s xs from stop → filter (meets s) (take stop xs) ≡ filter (meets s) (take from xs)
  none_met from stop l m h =
      ap (λ (k : ℕ). filter (meets s) (take k xs)) (omega arith)
      ∙ passed_by from (stop - from) (omega arith) (λ k a b. h.none k d a (omega arith))

  pub none_counted : (from stop : ℕ) → from ≤ stop → stop ≤ length xs → MeetsNoneBetween s xs from stop → count_by (meets s) (take stop xs) ≡ count_by (meets s) (take from xs)
  none_counted from stop l m h = sym (length-filter (meets s) (take stop xs)) ∙ ap (λ (ys : List GridPoint). length ys) (none_met from stop l m h) ∙ length-filter (meets s) (take from xs)

-- ---- rectangles beside a segment

outside_not : (a b low high g : ℤ) → is_outside a b low high ≡ true → low ≤ℤ g → g ≤ℤ high → SameWay (g -ℤ a) (b -ℤ g) → ⊥
outside_not a b low high g e l m w = or_cases (int_lt a low && int_lt b low) (int_lt high a && int_lt high b) e
    (λ f. let h = and_parts (int_lt a low) (int_lt b low) f in below (lt_from a low h.0) (lt_from b low h.1) w)
    (λ f. let h = and_parts (int_lt high a) (int_lt high b) f in above (lt_from high a h.0) (lt_from high b h.1) w)
  where
    below : a <ℤ low → b <ℤ low → SameWay (g -ℤ a) (b -ℤ g) → ⊥
    below i j (inl v) = let p = v.0 in let q = v.1 in absurd (omega order)
    below i j (inr v) = let p = v.0 in let q = v.1 in absurd (omega order)

    above : high <ℤ a → high <ℤ b → SameWay (g -ℤ a) (b -ℤ g) → ⊥
    above i j (inl v) = let p = v.0 in let q = v.1 in absurd (omega order)
    above i j (inr v) = let p = v.0 in let q = v.1 in absurd (omega order)

not_in_box : (s : Segment) (g : GridPoint) → (IsInBox s g → ⊥) → meets s g ≡ false
not_in_box s g n = by_test (meets s g) (λ e. absurd (n (met_pixels_lie_in_the_box s g ((meets_is_computed s g).0 e)))) (λ e. e)

pub beside_across : (s : Segment) (rect : Corners) (g : GridPoint) → is_outside s.start.x s.stop.x rect.low.x rect.high.x ≡ true → Holds rect g → meets s g ≡ false
beside_across s rect g e h = not_in_box s g (λ b. outside_not s.start.x s.stop.x rect.low.x rect.high.x g.x e h.left h.right b.0)

pub beside_upward : (s : Segment) (rect : Corners) (g : GridPoint) → is_outside s.start.y s.stop.y rect.low.y rect.high.y ≡ true → Holds rect g → meets s g ≡ false
beside_upward s rect g e h = not_in_box s g (λ b. outside_not s.start.y s.stop.y rect.low.y rect.high.y g.y e h.lower h.upper b.1)

-- ---- a rectangle that grows by one point

pub holds_more : (rect wide : Corners) (points : List GridPoint) (start k : ℕ) (p d : GridPoint) → HoldsBetween rect points start k → HoldsMore rect p wide → k < length points → p ≡ get_or points k d → HoldsBetween wide points start (k + 1)
holds_more rect wide points start k p d h m l e = record {
  held = λ j c a b. elim (cases_lt j k) [
    | inl n ↦ m.others (get_or points j c) (h.held j c a n)
    | inr n ↦ (let same : k ≡ j = omega arith in subst (Holds wide) (e ∙ get_or_default points k d c l ∙ ap (λ (i : ℕ). get_or points i c) same) m.point)
  ];
}

-- ---- one point, and two segments

pub point_beside_across : (s : Segment) (g : GridPoint) → is_outside s.start.x s.stop.x g.x g.x ≡ true → meets s g ≡ false
point_beside_across s g e = beside_across s (record { low = g; high = g }) g e (record { left = omega order; right = omega order; lower = omega order; upper = omega order })

pub point_beside_upward : (s : Segment) (g : GridPoint) → is_outside s.start.y s.stop.y g.y g.y ≡ true → meets s g ≡ false
point_beside_upward s g e = beside_upward s (record { low = g; high = g }) g e (record { left = omega order; right = omega order; lower = omega order; upper = omega order })

no_crossing : (s t : Segment) → ((g : GridPoint) → IsInBox s g → Holds (box_of t) g → ⊥) → crossing_pixel s t ≡ None
no_crossing s t n = go (crossing_pixel s t) refl
  where
    go : (o : Option GridPoint) → crossing_pixel s t ≡ o → o ≡ None
    go None e = refl
    go (Some g) e = let b = crossings_lie_in_both_boxes s t g e in absurd (n g b.0 (box_holds t g b.1))

pub cross_beside_across : (s t : Segment) → is_outside s.start.x s.stop.x (lesser t.start.x t.stop.x) (greater t.start.x t.stop.x) ≡ true → crossing_pixel s t ≡ None
cross_beside_across s t e = no_crossing s t (λ g b h. outside_not s.start.x s.stop.x (box_of t).low.x (box_of t).high.x g.x e h.left h.right b.0)

pub cross_beside_upward : (s t : Segment) → is_outside s.start.y s.stop.y (lesser t.start.y t.stop.y) (greater t.start.y t.stop.y) ≡ true → crossing_pixel s t ≡ None
cross_beside_upward s t e = no_crossing s t (λ g b h. outside_not s.start.y s.stop.y (box_of t).low.y (box_of t).high.y g.y e h.lower h.upper b.1)

-- ---- a search that goes on

-- the points before `done` are done; those from there to `from` are passed over, and those to below `stop` are next
pub record GoesOn (s : Segment) (points : List GridPoint) (done from stop : ℕ) : Type 0 where
  pub onward : done ≤ from
  pub ordered : from ≤ stop
  pub within : stop ≤ length points
  pub passed : MeetsNoneBetween s points done from
