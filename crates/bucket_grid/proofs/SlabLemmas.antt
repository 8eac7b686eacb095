-- The slabs of a rectangle: which numbers, points and boxes lie in one.
use Rattle.std.proofs.Common.{◌≡◌, refl, sym, ap, subst, arith, ℕ, zero, suc, ◌+◌, ◌*◌, ◌/◌, min, ◌<◌, ◌≤◌, Bool, true, false, cond, ◌&&◌, leb, eqb, ℤ, pos, ◌-ℤ◌, ◌≤ℤ◌, ◌<ℤ◌, int_lt, unsigned_abs}
use Rattle.std.proofs.Math.Nat.{div-lt_iff_lt-mul}
use Rattle.std.proofs.lemmas.Bool.{and_parts, and_from, leb-true, le-leb, eqb-true, eqb-false}
use Rattle.std.proofs.lemmas.Int.{ints}
use Rattle.plane_model.specs.Points.{GridPoint}
use Rattle.plane_algebra.proofs.Order.{order, order_cases}
use Rattle.plane_algebra.proofs.Tests.{lt_from, lt_to, by_test}
use Rattle.grid_base.specs.Grid.{Corners}
use Rattle.bucket_grid.specs.declared.tree.Axis.{Axis}
use Rattle.bucket_grid.specs.declared.tree.Axis.TheVariants.{Across, Upward}
use Rattle.bucket_grid.specs.declared.tree.Slabs.{Slabs}
use Rattle.bucket_grid.specs.Rects.{Holds, share_point}
use Rattle.bucket_grid.specs.Slabs.{along, start_of, slab_at, DividesRect, strip, slab_low, slab_high, slab_part, reaches}
use Rattle.bucket_grid.proofs.SharedPoints.{overlap_from, overlap_to}

-- ---- numbers

-- no slab comes after the last
pub at_most_last : (s : Slabs) (z : ℤ) → slab_at s z ≤ s.last
at_most_last s z = by_test (int_lt z s.first)
    (λ e. subst (λ (b : Bool). cond b 0 (min (unsigned_abs (z -ℤ s.first) / (s.reach + 1)) s.last) ≤ s.last) (sym e) (omega arith))
    (λ e. subst (λ (b : Bool). cond b 0 (min (unsigned_abs (z -ℤ s.first) / (s.reach + 1)) s.last) ≤ s.last) (sym e) (omega arith))

-- a number before the slabs lies in slab 0
before_is : (s : Slabs) (z : ℤ) → z <ℤ s.first → slab_at s z ≡ 0
before_is s z h = ap (λ (b : Bool). cond b 0 (min (unsigned_abs (z -ℤ s.first) / (s.reach + 1)) s.last)) (lt_to z s.first h)

not_before : (s : Slabs) (z : ℤ) → s.first ≤ℤ z → int_lt z s.first ≡ false
not_before s z h = by_test (int_lt z s.first) (λ e. absurd (let l = lt_from z s.first e in omega order)) (λ e. e)

past_is : (s : Slabs) (z : ℤ) → s.first ≤ℤ z → slab_at s z ≡ min (unsigned_abs (z -ℤ s.first) / (s.reach + 1)) s.last
past_is s z h = ap (λ (b : Bool). cond b 0 (min (unsigned_abs (z -ℤ s.first) / (s.reach + 1)) s.last)) (not_before s z h)

-- a number lies in a slab before slab k exactly where it lies before that slab's start
module _ (s : Slabs) (z : ℤ) (k : ℕ) (is_later : 0 < k) (is_slab : k ≤ s.last) where
  pub below_start : slab_at s z < k → z <ℤ start_of s k
  below_start l = order_cases s.first z
      (λ h. let e = past_is s z h in
      let m : unsigned_abs (z -ℤ s.first) / (s.reach + 1) < k = omega arith in
      let n : unsigned_abs (z -ℤ s.first) < k * (s.reach + 1) = (div-lt_iff_lt-mul (omega arith)).0 m in
      omega (arith, ints))
      (λ h. omega (arith, ints))

  pub before_start : z <ℤ start_of s k → slab_at s z < k
  before_start l = order_cases s.first z
      (λ h. let e = past_is s z h in
      let n : unsigned_abs (z -ℤ s.first) < k * (s.reach + 1) = omega (arith, ints) in
      let m : unsigned_abs (z -ℤ s.first) / (s.reach + 1) < k = (div-lt_iff_lt-mul (omega arith)).1 n in
      omega arith)
      (λ h. let e = before_is s z h in omega arith)

-- ---- the bounds of a slab in a rectangle

module _ (rect : Corners) (s : Slabs) (d : DividesRect rect s) where
  -- a slab's start is past the rectangle's, and not past its end
  start_inside : (k : ℕ) → k ≤ s.last → (along s.axis rect.low ≤ℤ start_of s k) × (start_of s k ≤ℤ along s.axis rect.high)
  start_inside k l =
      let a = d.low in
      let b = d.high in
      let m : k * (s.reach + 1) ≤ s.last * (s.reach + 1) = mul_mono k s.last ((s.reach + 1)) l in
      (omega (arith, ints), omega (arith, ints))
    where
      mul_mono : (a b c : ℕ) → a ≤ b → a * c ≤ b * c
      mul_mono a b c h = search arith

  low_to : (k : ℕ) (z : ℤ) → k ≤ s.last → slab_low s k rect ≤ℤ z → (along s.axis rect.low ≤ℤ z) × (k ≤ slab_at s z)
  low_to zero z l h = (h, omega arith)
  low_to (suc k) z l h =
      let i = start_inside (suc k) l in
      (let a = i.0 in omega order, by_nat (slab_at s z) (suc k) (λ m. let n = below_start s z (suc k) (omega arith) l m in absurd (omega order)))
    where
      by_nat : (m n : ℕ) → (m < n → ⊥) → n ≤ m
      by_nat m n f = grind arith

  low_from : (k : ℕ) (z : ℤ) → k ≤ s.last → along s.axis rect.low ≤ℤ z → k ≤ slab_at s z → slab_low s k rect ≤ℤ z
  low_from zero z l h m = h
  low_from (suc k) z l h m = order_cases (start_of s (suc k)) z (λ r. r) (λ r. absurd (let n = before_start s z (suc k) (omega arith) l r in omega arith))

  high_to : (k : ℕ) (z : ℤ) → k ≤ s.last → z ≤ℤ slab_high s k rect → (z ≤ℤ along s.axis rect.high) × (slab_at s z ≤ k)
  high_to k z l h = by_test (eqb k s.last)
      (λ e. let m = at_most_last s z in let n = eqb-true k s.last e in
      (subst (λ (b : Bool). z ≤ℤ cond b (along s.axis rect.high) (start_of s (k + 1) -ℤ pos 1)) e h, omega arith))
      (λ e. let n = eqb-false k s.last e in
      let r : z ≤ℤ (start_of s (k + 1) -ℤ pos 1) = subst (λ (b : Bool). z ≤ℤ cond b (along s.axis rect.high) (start_of s (k + 1) -ℤ pos 1)) e h in
      let i = (start_inside (k + 1) (next_is k s.last l n)).1 in
      let t = before_start s z (k + 1) (omega arith) (next_is k s.last l n) (omega order) in
      (omega order, omega arith))
    where
      next_is : (a b : ℕ) → a ≤ b → (a ≡ b → ⊥) → a + 1 ≤ b
      next_is a b l f = grind arith

  high_from : (k : ℕ) (z : ℤ) → k ≤ s.last → z ≤ℤ along s.axis rect.high → slab_at s z ≤ k → z ≤ℤ slab_high s k rect
  high_from k z l h m = by_test (eqb k s.last)
      (λ e. subst (λ (b : Bool). z ≤ℤ cond b (along s.axis rect.high) (start_of s (k + 1) -ℤ pos 1)) (sym e) h)
      (λ e. let n = eqb-false k s.last e in
      let t = below_start s z (k + 1) (omega arith) (next_is k s.last l n) (omega arith) in
      subst (λ (b : Bool). z ≤ℤ cond b (along s.axis rect.high) (start_of s (k + 1) -ℤ pos 1)) (sym e) (omega order))
    where
      next_is : (a b : ℕ) → a ≤ b → (a ≡ b → ⊥) → a + 1 ≤ b
      next_is a b l f = grind arith

-- ---- the part of a rectangle in a slab

-- it holds the points of the rectangle whose slab this is
pub slab_holds_to : (rect : Corners) (s : Slabs) → DividesRect rect s → (k : ℕ) (g : GridPoint) → k ≤ s.last → Holds (slab_part s k rect) g → Holds rect g × (slab_at s (along s.axis g) ≡ k)
slab_holds_to rect s d k g l h = go s.axis refl h
  where
    go : (a : Axis) → s.axis ≡ a → Holds (strip a (slab_low s k rect) (slab_high s k rect) rect) g → Holds rect g × (slab_at s (along s.axis g) ≡ k)
    go Across e h =
        let z = ap (λ (a : Axis). along a g) e in
        let m = low_to rect s d k (along s.axis g) l (subst (λ (x : ℤ). slab_low s k rect ≤ℤ x) (sym z) h.left) in
        let n = high_to rect s d k (along s.axis g) l (subst (λ (x : ℤ). x ≤ℤ slab_high s k rect) (sym z) h.right) in
        let p = m.1 in
        let q = n.1 in
        (record { left = side e m.0; right = other e n.0; lower = h.lower; upper = h.upper }, omega arith)
      where
        side : s.axis ≡ Across → along s.axis rect.low ≤ℤ along s.axis g → rect.low.x ≤ℤ g.x
        side e m = subst (λ (a : Axis). along a rect.low ≤ℤ along a g) e m

        other : s.axis ≡ Across → along s.axis g ≤ℤ along s.axis rect.high → g.x ≤ℤ rect.high.x
        other e m = subst (λ (a : Axis). along a g ≤ℤ along a rect.high) e m
    go Upward e h =
        let z = ap (λ (a : Axis). along a g) e in
        let m = low_to rect s d k (along s.axis g) l (subst (λ (x : ℤ). slab_low s k rect ≤ℤ x) (sym z) h.lower) in
        let n = high_to rect s d k (along s.axis g) l (subst (λ (x : ℤ). x ≤ℤ slab_high s k rect) (sym z) h.upper) in
        let p = m.1 in
        let q = n.1 in
        (record { left = h.left; right = h.right; lower = side e m.0; upper = other e n.0 }, omega arith)
      where
        side : s.axis ≡ Upward → along s.axis rect.low ≤ℤ along s.axis g → rect.low.y ≤ℤ g.y
        side e m = subst (λ (a : Axis). along a rect.low ≤ℤ along a g) e m

        other : s.axis ≡ Upward → along s.axis g ≤ℤ along s.axis rect.high → g.y ≤ℤ rect.high.y
        other e m = subst (λ (a : Axis). along a g ≤ℤ along a rect.high) e m

pub slab_holds_from : (rect : Corners) (s : Slabs) → DividesRect rect s → (k : ℕ) (g : GridPoint) → k ≤ s.last → Holds rect g → slab_at s (along s.axis g) ≡ k → Holds (slab_part s k rect) g
slab_holds_from rect s d k g l h e = go s.axis refl
  where
    go : (a : Axis) → s.axis ≡ a → Holds (strip a (slab_low s k rect) (slab_high s k rect) rect) g
    go Across f = record {
      left = subst (λ (a : Axis). slab_low s k rect ≤ℤ along a g) f (low_from rect s d k (along s.axis g) l (subst (λ (a : Axis). along a rect.low ≤ℤ along a g) (sym f) h.left) (omega arith));
      right = subst (λ (a : Axis). along a g ≤ℤ slab_high s k rect) f (high_from rect s d k (along s.axis g) l (subst (λ (a : Axis). along a g ≤ℤ along a rect.high) (sym f) h.right) (omega arith));
      lower = h.lower;
      upper = h.upper;
    }
    go Upward f = record {
      left = h.left;
      right = h.right;
      lower = subst (λ (a : Axis). slab_low s k rect ≤ℤ along a g) f (low_from rect s d k (along s.axis g) l (subst (λ (a : Axis). along a rect.low ≤ℤ along a g) (sym f) h.lower) (omega arith));
      upper = subst (λ (a : Axis). along a g ≤ℤ slab_high s k rect) f (high_from rect s d k (along s.axis g) l (subst (λ (a : Axis). along a g ≤ℤ along a rect.high) (sym f) h.upper) (omega arith));
    }

-- a box shares a point with it exactly where it shares one with the rectangle and reaches into the slab
same_test : (a b : Bool) → (a ≡ true → b ≡ true) → (b ≡ true → a ≡ true) → a ≡ b
same_test true b f g = sym (f refl)
same_test false true f g = g refl
same_test false false f g = refl

pub slab_shares : (rect : Corners) (s : Slabs) → DividesRect rect s → (k : ℕ) → k ≤ s.last → (b : Corners) → share_point (slab_part s k rect) b ≡ (share_point rect b && reaches s k b)
slab_shares rect s d k l b = go s.axis refl
  where
    to_reach : slab_low s k rect ≤ℤ along s.axis b.high → along s.axis b.low ≤ℤ slab_high s k rect → reaches s k b ≡ true
    to_reach m n = and_from (leb (slab_at s (along s.axis b.low)) k) (leb k (slab_at s (along s.axis b.high)))
        (le-leb (slab_at s (along s.axis b.low)) k (high_to rect s d k (along s.axis b.low) l n).1)
        (le-leb k (slab_at s (along s.axis b.high)) (low_to rect s d k (along s.axis b.high) l m).1)

    parts : reaches s k b ≡ true → (slab_at s (along s.axis b.low) ≤ k) × (k ≤ slab_at s (along s.axis b.high))
    parts e =
        let p = and_parts (leb (slab_at s (along s.axis b.low)) k) (leb k (slab_at s (along s.axis b.high))) e in
        (leb-true (slab_at s (along s.axis b.low)) k p.0, leb-true k (slab_at s (along s.axis b.high)) p.1)

    go : (a : Axis) → s.axis ≡ a → share_point (strip a (slab_low s k rect) (slab_high s k rect) rect) b ≡ (share_point rect b && reaches s k b)
    go Across f = same_test (share_point (strip Across (slab_low s k rect) (slab_high s k rect) rect) b) (share_point rect b && reaches s k b)
        (λ e. let o = overlap_from (strip Across (slab_low s k rect) (slab_high s k rect) rect) b e in
        let m : slab_low s k rect ≤ℤ along s.axis b.high = subst (λ (a : Axis). slab_low s k rect ≤ℤ along a b.high) (sym f) o.left in
        let n : along s.axis b.low ≤ℤ slab_high s k rect = subst (λ (a : Axis). along a b.low ≤ℤ slab_high s k rect) (sym f) o.right in
        and_from (share_point rect b) (reaches s k b)
        (overlap_to rect b (record {
          left = subst (λ (a : Axis). along a rect.low ≤ℤ along a b.high) f (low_to rect s d k (along s.axis b.high) l m).0;
          right = subst (λ (a : Axis). along a b.low ≤ℤ along a rect.high) f (high_to rect s d k (along s.axis b.low) l n).0;
          lower = o.lower;
          upper = o.upper;
        }))
        (to_reach m n))
        (λ e. let p = and_parts (share_point rect b) (reaches s k b) e in
        let o = overlap_from rect b p.0 in
        let q = parts p.1 in
        overlap_to (strip Across (slab_low s k rect) (slab_high s k rect) rect) b (record {
          left = subst (λ (a : Axis). slab_low s k rect ≤ℤ along a b.high) f (low_from rect s d k (along s.axis b.high) l (subst (λ (a : Axis). along a rect.low ≤ℤ along a b.high) (sym f) o.left) q.1);
          right = subst (λ (a : Axis). along a b.low ≤ℤ slab_high s k rect) f (high_from rect s d k (along s.axis b.low) l (subst (λ (a : Axis). along a b.low ≤ℤ along a rect.high) (sym f) o.right) q.0);
          lower = o.lower;
          upper = o.upper;
        }))
    go Upward f = same_test (share_point (strip Upward (slab_low s k rect) (slab_high s k rect) rect) b) (share_point rect b && reaches s k b)
        (λ e. let o = overlap_from (strip Upward (slab_low s k rect) (slab_high s k rect) rect) b e in
        let m : slab_low s k rect ≤ℤ along s.axis b.high = subst (λ (a : Axis). slab_low s k rect ≤ℤ along a b.high) (sym f) o.lower in
        let n : along s.axis b.low ≤ℤ slab_high s k rect = subst (λ (a : Axis). along a b.low ≤ℤ slab_high s k rect) (sym f) o.upper in
        and_from (share_point rect b) (reaches s k b)
        (overlap_to rect b (record {
          left = o.left;
          right = o.right;
          lower = subst (λ (a : Axis). along a rect.low ≤ℤ along a b.high) f (low_to rect s d k (along s.axis b.high) l m).0;
          upper = subst (λ (a : Axis). along a b.low ≤ℤ along a rect.high) f (high_to rect s d k (along s.axis b.low) l n).0;
        }))
        (to_reach m n))
        (λ e. let p = and_parts (share_point rect b) (reaches s k b) e in
        let o = overlap_from rect b p.0 in
        let q = parts p.1 in
        overlap_to (strip Upward (slab_low s k rect) (slab_high s k rect) rect) b (record {
          left = o.left;
          right = o.right;
          lower = subst (λ (a : Axis). slab_low s k rect ≤ℤ along a b.high) f (low_from rect s d k (along s.axis b.high) l (subst (λ (a : Axis). along a rect.low ≤ℤ along a b.high) (sym f) o.lower) q.1);
          upper = subst (λ (a : Axis). along a b.low ≤ℤ slab_high s k rect) f (high_from rect s d k (along s.axis b.low) l (subst (λ (a : Axis). along a b.low ≤ℤ along a rect.high) (sym f) o.upper) q.0);
        }))

-- ---- as the code finds them

pub divides_from : (rect : Corners) (s : Slabs) (past : ℕ) → past ≡ s.last * (s.reach + 1) → along s.axis rect.low ≤ℤ s.first → s.first ≤ℤ along s.axis rect.high →
    past ≤ unsigned_abs (along s.axis rect.high -ℤ s.first) → DividesRect rect s
divides_from rect s past e l h m = record { low = l; high = omega (arith, ints) }
