use Rattle.cmd_words.proofs.Readings.{turns_at_ok, turns_at_err}
use Rattle.cmd_words.proofs.reading.take_numbered.Goals as goal

pub returns-in-Ok : goal.returns-in-Ok
returns-in-Ok c = record { exact = λ refuses right. turns_at_ok _ _ _ (c.in-Ok.ensures.exact refuses right) }

pub returns-in-Err : goal.returns-in-Err
returns-in-Err c = record { exact = λ refuses right. rw c.at.ensures.exact (turns_at_err _ _ c.args.group.now c.in-Err.refusal (c.in-Err.ensures.exact refuses right)) }
