use Rattle.std.proofs.Common.{ap, ◌∙◌, sym, Bool, ◌&&◌, ◌==◌}
use Rattle.std.specs.List.{list_all}
use Rattle.numerals.proofs.Scaling.{zeros_pair}
use Rattle.numerals.proofs.numerals.are_zeros.Goals as goal

pub returns-then-holds_zeros : goal.returns-then-holds_zeros
returns-then-holds_zeros c =
    record { exact = c.holds_zeros-then-holds_zeros.ensures.exact ∙ ap (λ (b : Bool). b && list_all (λ b. b == 48) c.args.digits_end.now) (sym c.if-holds_zeros.true ∙ c.holds_zeros.ensures.exact) ∙ zeros_pair c.args.digits.now c.args.digits_end.now c.requires.digits c.requires.end }

pub returns-else-holds_zeros : goal.returns-else-holds_zeros
returns-else-holds_zeros c =
    record { exact = c.if-holds_zeros.false ∙ ap (λ (b : Bool). b && list_all (λ b. b == 48) c.args.digits_end.now) (sym c.if-holds_zeros.false ∙ c.holds_zeros.ensures.exact) ∙ zeros_pair c.args.digits.now c.args.digits_end.now c.requires.digits c.requires.end }
