use Rattle.std.proofs.Common.{◌≡◌, ◌∙◌, ap, subst, rules, ℕ, ◌+◌, ◌*◌, ◌≤◌, true, ℤ, ◌-ℤ◌, ◌≤ℤ◌, int_le, unsigned_abs, w64, FitsSigned, to_z-of_z}
use Rattle.plane_algebra.proofs.Tests.{le_from}
use Rattle.bucket_grid.specs.Slabs.{along}
use Rattle.bucket_grid.proofs.SlabLemmas.{divides_from}
use Rattle.bucket_grid.proofs.dividing.dividing.Goals as goal

pub returns-then-past-abs_diff : goal.returns-then-past-abs_diff
returns-then-past-abs_diff c =
    let s = c.args.slabs in
    let low = c.coordinate-low.result in
    let high = c.coordinate-high.result in
    let f₁ : FitsSigned w64 low = search rules in
    let f₂ : FitsSigned w64 high = search rules in
    let f₃ : FitsSigned w64 s.first = search rules in
    let low_is : low ≡ along s.axis c.args.rect.low = c.coordinate-low.ensures.exact ∙ ap (along s.axis) c.low.ensures.exact in
    let high_is : high ≡ along s.axis c.args.rect.high = c.coordinate-high.ensures.exact ∙ ap (along s.axis) c.high.ensures.exact in
    let l : int_le low s.first ≡ true = simp to_z-of_z at c.if-low-slabs.true in
    let h : int_le s.first high ≡ true = simp to_z-of_z at c.if-slabs-high.true in
    let d : c.abs_diff.result ≡ unsigned_abs (high -ℤ s.first) = simp to_z-of_z at c.abs_diff.ensures in
    let m : c.in_ok-past.past ≤ unsigned_abs (high -ℤ s.first) = subst (λ (n : ℕ). c.in_ok-past.past ≤ n) d c.if-past-abs_diff.true in
    let p : c.in_ok-past.past ≡ s.last * (s.reach + 1) = search rules in
    record {
      found = divides_from c.args.rect s c.in_ok-past.past p
          (subst (λ (z : ℤ). z ≤ℤ s.first) low_is (le_from low s.first l))
          (subst (λ (z : ℤ). s.first ≤ℤ z) high_is (le_from s.first high h))
          (subst (λ (z : ℤ). c.in_ok-past.past ≤ unsigned_abs (z -ℤ s.first)) high_is m);
    }
