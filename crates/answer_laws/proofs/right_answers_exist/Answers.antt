-- The law is proved in `proofs/Exist.antt`.
use Rattle.answer_laws.proofs.Exist.{right_answers_exist}
use Rattle.answer_laws.proofs.right_answers_exist.Goals as goal

pub returns : goal.returns
returns c = record { holds = right_answers_exist }
