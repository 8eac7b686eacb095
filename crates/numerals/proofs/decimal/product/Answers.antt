use Rattle.std.proofs.Common.{ℕ, ◌≡◌, ◌*◌, ◌%◌, ◌∙◌, sym, ap, arith}
use Rattle.numerals.proofs.Products.{halves_product, low_multiple, product_size, high_too_large}
use Rattle.numerals.proofs.decimal.product.Goals as goal

pub returns-then-low-ne0 : goal.returns-then-low-ne0
returns-then-low-ne0 c = record { exact = λ r e. absurd (c.if-low-ne0.true (ap (λ (x : ℕ). x % 1000000000000000000) c.times-low.ensures.value ∙ low_multiple 1000000000000000000 c.args.a c.args.b r e)) }

pub returns-then-high-ge-ONE : goal.returns-then-high-ge-ONE
returns-then-high-ge-ONE c = record { exact = λ r e. high_too_large 1000000000000000000 c.args.a c.args.b r (omega arith) e (low_multiple 1000000000000000000 c.args.a c.args.b r e) (omega (arith, c.if-high-ge-ONE.true, c.times-high.ensures.value)) }

pub returns-then-size-lt-UNITS_END : goal.returns-then-size-lt-UNITS_END
returns-then-size-lt-UNITS_END c =
    let l : ((c.args.a % 1000000000000000000) * (c.args.b % 1000000000000000000)) % 1000000000000000000 ≡ 0 = ap (λ (x : ℕ). x % 1000000000000000000) (sym c.times-low.ensures.value) ∙ c.if-low-ne0.false in
    record { exact = (rw (c.times-high.ensures.value, c.times.ensures.value, c.times-2.ensures.value, c.times-low.ensures.value) (halves_product 1000000000000000000 c.args.a c.args.b l), c.if-size-lt-UNITS_END.true) }

pub returns-else-size-lt-UNITS_END : goal.returns-else-size-lt-UNITS_END
returns-else-size-lt-UNITS_END c = record {
  exact = λ r e.
      let l : ((c.args.a % 1000000000000000000) * (c.args.b % 1000000000000000000)) % 1000000000000000000 ≡ 0 = ap (λ (x : ℕ). x % 1000000000000000000) (sym c.times-low.ensures.value) ∙ c.if-low-ne0.false in
      let s = product_size 1000000000000000000 c.args.a c.args.b r (omega arith) e l in
      rw s (rw (← c.times-high.ensures.value, ← c.times.ensures.value, ← c.times-2.ensures.value, ← c.times-low.ensures.value) c.if-size-lt-UNITS_END.false);
}
