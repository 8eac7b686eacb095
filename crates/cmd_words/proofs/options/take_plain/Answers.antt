use Rattle.std.proofs.Common.{sym, ◌∙◌}
use Rattle.cmd_words.proofs.Steps.{makes_else}
use Rattle.cmd_words.proofs.options.take_plain.Goals as goal

pub returns-else-has_bare : goal.returns-else-has_bare
returns-else-has_bare c =
    record { exact = λ refuses right. makes_else _ _ _ _ _ (sym c.has_bare.ensures.exact ∙ c.if-has_bare.false) (c.take_argument.ensures.exact refuses right) }
