use Rattle.cmd_words.proofs.Steps.{option_step, plain_step}
use Rattle.cmd_words.proofs.options.take_word.Goals as goal

pub returns-in-Some : goal.returns-in-Some
returns-in-Some c = record { exact = λ refuses right. option_step refuses _ _ _ _ _ _ _ _ _ c.in-Some.ensures.exact c.value_form.ensures.exact (c.take_known.ensures.exact refuses right) }

pub returns-in-None : goal.returns-in-None
returns-in-None c = record { exact = λ refuses right. plain_step refuses _ _ _ _ _ _ _ c.in-None.ensures.exact (c.take_plain.ensures.exact refuses right) }
