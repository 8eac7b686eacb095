use Rattle.std.proofs.Common.{◌≡◌, length}
use Rattle.expr_lang.specs.Tokens.{is_name_byte}
use Rattle.numerals.specs.Bytes.{drop_while}
use Rattle.expr_lang.proofs.scanner.Scanner.name_bytes.Given as goal

abbrev pub invariant-loop-self : goal.invariant-loop-self
invariant-loop-self l = drop_while is_name_byte l.self.rest.now ≡ drop_while is_name_byte l.initial.self.rest.now

abbrev pub decreases-loop-self : goal.decreases-loop-self
decreases-loop-self l = length l.self.rest.now
