use Rattle.std.proofs.Common.{ap, not, Bool}
use Rattle.numerals.proofs.Scaling.{cut_is, digits_append}
use Rattle.numerals.proofs.numerals.cut_after.Goals as goal

pub returns : goal.returns
returns c = record { exact = λ n k u l. cut_is n k c.args.units c.args.tenths _ _ u l c.requires.tenths (digits_append _ _ c.requires.rest c.requires.end) (ap (λ (b : Bool). not b) c.are_zeros.ensures.exact) }
