use Rattle.headline_laws.proofs.Ending.{ended_before}
use Rattle.headline_laws.proofs.chains_end_before_they_begin.Goals as goal

pub returns : goal.returns
returns c = record { holds = ended_before }
