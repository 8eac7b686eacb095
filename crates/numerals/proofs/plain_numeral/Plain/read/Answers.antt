use Rattle.std.proofs.Common.{subst, take_all, List, ℕ}
use Rattle.numerals.specs.Numeral.{numeral_of}
use Rattle.numerals.specs.Plain.{IsPlain}
use Rattle.numerals.proofs.plain_numeral.Plain.read.Goals as goal

pub returns : goal.returns
returns c =
    let h = c.in_ok-plain.ensures.found in
    record { found = subst (λ (t : List ℕ). IsPlain (numeral_of t) c.in_ok-plain.plain) (take_all c.in_ok-plain.size c.args.text.now c.if-size-text.false) h.0 }
