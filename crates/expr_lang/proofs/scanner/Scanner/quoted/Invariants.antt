use Rattle.std.proofs.Common.{◌≡◌, Some, [], length}
use Rattle.std.specs.String.{string_bytes}
use Rattle.expr_lang.specs.Reading.{known_content}
use Rattle.expr_lang.specs.Tokens.{text_at}
use Rattle.expr_lang.proofs.scanner.Scanner.quoted.Given as goal

abbrev pub invariant-loop-c : goal.invariant-loop-c
invariant-loop-c l = text_at l.quote (known_content l.other (string_bytes l.content)) l.self.rest.now ≡ text_at l.quote (Some []) l.fn.self.rest.now

abbrev pub decreases-loop-c : goal.decreases-loop-c
decreases-loop-c l = length l.self.rest.now
