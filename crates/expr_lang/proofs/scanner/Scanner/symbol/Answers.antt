use Rattle.std.proofs.Common.{◌∙◌, ap, sym}
use Rattle.std.specs.Str.{IsUtf8}
use Rattle.std.proofs.Common.{subst}
use Rattle.expr_lang.specs.Tokens.{three_bytes, two_bytes}
use Rattle.expr_lang.proofs.Boundaries.{after_three, after_two, after_one}
use Rattle.expr_lang.proofs.scanner.Scanner.symbol.Goals as goal

pub pass-requires : goal.pass-requires
pass-requires c =
    after_three _ c.in-Some.symbol (subst IsUtf8 c.as_bytes.ensures.value c.as_bytes.ensures.utf8) (ap three_bytes (sym c.as_bytes.ensures.value) ∙ sym c.three_bytes.ensures.exact ∙ c.in-Some.is)

pub pass-requires-in-Some-two_bytes : goal.pass-requires-in-Some-two_bytes
pass-requires-in-Some-two_bytes c =
    after_two _ c.in-Some-two_bytes.symbol (subst IsUtf8 c.as_bytes-2.ensures.value c.as_bytes-2.ensures.utf8) (ap two_bytes (sym c.as_bytes-2.ensures.value) ∙ sym c.two_bytes.ensures.exact ∙ c.in-Some-two_bytes.is)

pub pass-requires-in-Some-one_byte : goal.pass-requires-in-Some-one_byte
pass-requires-in-Some-one_byte c =
    after_one _ c.requires.0 c.args.first c.in-Some-one_byte.symbol (subst IsUtf8 c.as_bytes.ensures.value c.as_bytes.ensures.utf8) c.requires.1 (sym c.one_byte.ensures.exact ∙ c.in-Some-one_byte.is)
