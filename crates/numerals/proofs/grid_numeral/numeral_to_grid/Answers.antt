use Rattle.std.proofs.Common.{◌∙◌, ◌+◌, ap, sym, ℕ}
use Rattle.numerals.specs.Numeral.{checked_grid, signed}
use Rattle.numerals.proofs.Rounding.{grid_scaled, size_grid, no_grid}
use Rattle.numerals.proofs.grid_numeral.numeral_to_grid.Goals as goal

pub returns-in_err-minus : goal.returns-in_err-minus
returns-in_err-minus c = record { exact = c.from_residual.ensures ∙ sym (no_grid c.args.places c.as_bytes.result.now c.args.text.now c.as_bytes.ensures.value c.in_err-minus.ensures.exact) }

pub returns : goal.returns
returns c =
    let h = c.in_ok-minus.ensures.exact in
    let r = c.in_ok-minus.scaled in
    record { exact = c.on_grid.ensures.exact ∙ ap (λ (x : ℕ). checked_grid (signed c.in_ok-minus.minus (r.units + x))) c.rounding.ensures.exact ∙ sym (size_grid c.args.places c.as_bytes.result.now c.args.text.now _ r c.as_bytes.ensures.value h ∙ grid_scaled _ _ _ r h.scaled) }
