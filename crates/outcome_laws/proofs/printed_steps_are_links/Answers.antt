use Rattle.outcome_laws.proofs.PrintedSteps.{printed_steps_are_links}
use Rattle.outcome_laws.proofs.printed_steps_are_links.Goals as goal

pub returns : goal.returns
returns c = record { holds = printed_steps_are_links }
