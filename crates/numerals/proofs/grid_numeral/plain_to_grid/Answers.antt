use Rattle.std.proofs.Common.{◌∙◌, ◌+◌, ap, sym, ℕ}
use Rattle.numerals.specs.Numeral.{checked_grid, signed}
use Rattle.numerals.proofs.Rounding.{grid_raised, grid_scaled}
use Rattle.numerals.proofs.grid_numeral.plain_to_grid.Goals as goal

pub returns-then-is_finer : goal.returns-then-is_finer
returns-then-is_finer c =
    let p = c.args.plain.now in
    let r = c.scaled-scaled.result in
    record { exact = c.on_grid.ensures.exact ∙ ap (λ (x : ℕ). checked_grid (signed p.minus (r.units + x))) c.rounding.ensures.exact ∙ sym (grid_scaled p.minus p.number _ r c.scaled-scaled.ensures.exact) }

pub returns : goal.returns
returns c =
    let p = c.args.plain.now in
    record { exact = c.on_grid-2.ensures.exact ∙ ap (λ (x : ℕ). checked_grid (signed p.minus x)) c.raised.ensures.exact ∙ sym (grid_raised p.minus p.number p.fraction c.args.places (c.is_finer.ensures.other c.if-is_finer.false)) }
