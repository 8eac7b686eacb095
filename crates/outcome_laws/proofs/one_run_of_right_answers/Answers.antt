use Rattle.outcome_laws.proofs.OneOutcome.{one_run_of_right_answers}
use Rattle.outcome_laws.proofs.one_run_of_right_answers.Goals as goal

pub returns : goal.returns
returns c = record { holds = one_run_of_right_answers }
