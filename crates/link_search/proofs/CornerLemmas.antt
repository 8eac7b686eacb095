-- The links that leave a vertex, all to the right or straight up: which is the first counterclockwise from straight down.
use Rattle.std.proofs.Common.{◌≡◌, ◌⊎◌, refl, ap, ◌∙◌, arith, Bool, true, false, ◌&&◌, ◌||◌, ℤ, pos, ◌-ℤ◌, ◌*ℤ◌, inl, inr}
use Rattle.std.specs.Prelude.{◌<ℤ◌, ◌≤ℤ◌, int_lt, int_le}
use Rattle.std.proofs.lemmas.Int.{ints}
use Rattle.plane_algebra.proofs.Ring.{ring, ◌⊟◌, ◌⊠◌, num, ◌≐◌}
use Rattle.plane_algebra.proofs.Sign.{mul-nonneg, mul-nonpos, mul-positive, nonneg_of_mul}
use Rattle.plane_model.specs.Points.{Segment, is_before, cross}

-- to the right, or straight up
abbrev IsRightward : ℤ → ℤ → Type 0
IsRightward x y = (pos 0 <ℤ x) ⊎ ((x ≡ pos 0) × (pos 0 <ℤ y))

across : (x y : ℤ) → IsRightward x y → pos 0 ≤ℤ x
across x y (inl h) = omega (arith, ints)
across x y (inr h) = let k = h.0 in omega (arith, ints)

turns_on : (fx fy kx ky nx ny : ℤ) → IsRightward fx fy → IsRightward kx ky → IsRightward nx ny
    → pos 0 ≤ℤ (fx *ℤ ky -ℤ fy *ℤ kx) → (fx *ℤ ny -ℤ fy *ℤ nx) <ℤ pos 0 → pos 0 ≤ℤ (nx *ℤ ky -ℤ ny *ℤ kx)
turns_on fx fy kx ky nx ny (inl f) k n h l =
    nonneg_of_mul fx (nx *ℤ ky -ℤ ny *ℤ kx) f
    (let a = mul-nonneg nx (fx *ℤ ky -ℤ fy *ℤ kx) (across nx ny n) h in
    let b = mul-nonpos kx (fx *ℤ ny -ℤ fy *ℤ nx) (across kx ky k) (weak (fx *ℤ ny -ℤ fy *ℤ nx) l) in
    let e = ring 6 (λ fx fy kx ky nx ny. fx ⊠ (nx ⊠ ky ⊟ ny ⊠ kx) ≐ nx ⊠ (fx ⊠ ky ⊟ fy ⊠ kx) ⊟ kx ⊠ (fx ⊠ ny ⊟ fy ⊠ nx)) tt fx fy kx ky nx ny in
    omega (arith, ints))
  where
    weak : (a : ℤ) → a <ℤ pos 0 → a ≤ℤ pos 0
    weak a h = omega (arith, ints)
turns_on fx fy kx ky nx ny (inr f) (inl k) n h l =
    let a = mul-positive fy kx f.1 k in
    let e = zero_times fx ky f.0 in absurd (omega (arith, ints))
  where
    zero_times : (a b : ℤ) → a ≡ pos 0 → a *ℤ b ≡ pos 0
    zero_times a b e = ap (λ (c : ℤ). c *ℤ b) e ∙ ring 1 (λ b. num (pos 0) ⊠ b ≐ num (pos 0)) tt b
turns_on fx fy kx ky nx ny (inr f) (inr k) n h l =
    let a = mul-nonneg nx ky (across nx ny n) (weak ky k.1) in
    let e = times_zero ny kx k.0 in omega (arith, ints)
  where
    weak : (a : ℤ) → pos 0 <ℤ a → pos 0 ≤ℤ a
    weak a h = omega (arith, ints)

    times_zero : (b a : ℤ) → a ≡ pos 0 → b *ℤ a ≡ pos 0
    times_zero b a e = ap (λ (c : ℤ). b *ℤ c) e ∙ ring 1 (λ b. b ⊠ num (pos 0) ≐ num (pos 0)) tt b

rightward : (l : Segment) → is_before l.start l.stop ≡ true → IsRightward (l.stop.x -ℤ l.start.x) (l.stop.y -ℤ l.start.y)
rightward l e = go (int_lt l.start.x l.stop.x) (int_le l.start.x l.stop.x) (int_le l.stop.x l.start.x) (int_lt l.start.y l.stop.y) refl refl refl refl e
  where
    go : (a b c d : Bool) → int_lt l.start.x l.stop.x ≡ a → int_le l.start.x l.stop.x ≡ b → int_le l.stop.x l.start.x ≡ c → int_lt l.start.y l.stop.y ≡ d → (a || ((b && c) && d)) ≡ true
        → IsRightward (l.stop.x -ℤ l.start.x) (l.stop.y -ℤ l.start.y)
    go true b c d f g h i j = inl (omega (arith, ints))
    go false true true true f g h i j = inr (omega (arith, ints), omega (arith, ints))
    go false true true false f g h i j = absurd (cc)
    go false true false d f g h i j = absurd (cc)
    go false false c d f g h i j = absurd (cc)

-- where f turns left to k, and right to n, n turns left to k
pub turned_first : (f k n : Segment) → is_before f.start f.stop ≡ true → is_before k.start k.stop ≡ true → is_before n.start n.stop ≡ true → pos 0 ≤ℤ cross f k → cross f n <ℤ pos 0 → pos 0 ≤ℤ cross n k
turned_first f k n a b c h l =
    turns_on (f.stop.x -ℤ f.start.x) (f.stop.y -ℤ f.start.y) (k.stop.x -ℤ k.start.x) (k.stop.y -ℤ k.start.y) (n.stop.x -ℤ n.start.x) (n.stop.y -ℤ n.start.y) (rightward f a) (rightward k b) (rightward n c) h l

pub turned_back : (f n : Segment) → cross f n <ℤ pos 0 → pos 0 ≤ℤ cross n f
turned_back f n h =
    let e : cross n f ≡ pos 0 -ℤ cross f n = ring 4 (λ a b c d. c ⊠ b ⊟ d ⊠ a ≐ num (pos 0) ⊟ (a ⊠ d ⊟ b ⊠ c)) tt (f.stop.x -ℤ f.start.x) (f.stop.y -ℤ f.start.y) (n.stop.x -ℤ n.start.x) (n.stop.y -ℤ n.start.y) in omega (arith, ints)

pub turned_self : (f : Segment) → pos 0 ≤ℤ cross f f
turned_self f = let e : cross f f ≡ pos 0 = ring 2 (λ a b. a ⊠ b ⊟ b ⊠ a ≐ num (pos 0)) tt (f.stop.x -ℤ f.start.x) (f.stop.y -ℤ f.start.y) in omega (arith, ints)
