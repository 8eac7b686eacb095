use Rattle.outcome_laws.proofs.OneReading.{readings_are_one}
use Rattle.outcome_laws.proofs.readings_are_one.Goals as goal

pub returns : goal.returns
returns c = record { holds = readings_are_one }
