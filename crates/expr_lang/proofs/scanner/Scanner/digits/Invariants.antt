use Rattle.std.proofs.Common.{◌≡◌, length}
use Rattle.numerals.specs.Bytes.{is_digit, drop_while}
use Rattle.expr_lang.proofs.scanner.Scanner.digits.Given as goal

abbrev pub invariant-loop-self : goal.invariant-loop-self
invariant-loop-self l = drop_while is_digit l.self.rest.now ≡ drop_while is_digit l.initial.self.rest.now

abbrev pub decreases-loop-self : goal.decreases-loop-self
decreases-loop-self l = length l.self.rest.now
