use Rattle.std.proofs.Common.{sym, ◌∙◌}
use Rattle.cmd_words.proofs.Steps.{known_step}
use Rattle.cmd_words.proofs.options.take_known.Goals as goal

pub returns : goal.returns
returns c =
    record { exact = λ refuses right. known_step refuses _ _ _ _ _ _ _ _ c.in-Some.is (sym c.has_option.ensures.exact ∙ c.if-has_option.false) (sym c.lacks_value.ensures.exact ∙ c.if-lacks_value.false) (sym c.is_excluded.ensures.exact ∙ c.if-is_excluded.false) c.in_ok-add_option.ensures.ok (c.take_value.ensures.exact refuses right) }
