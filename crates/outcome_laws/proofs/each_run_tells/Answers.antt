use Rattle.outcome_laws.proofs.EachRun.{each_run_tells}
use Rattle.outcome_laws.proofs.each_run_tells.Goals as goal

pub returns : goal.returns
returns c = record { holds = each_run_tells }
