use Rattle.headline_laws.proofs.Refused.{faults_named}
use Rattle.headline_laws.proofs.faults_are_named.Goals as goal

pub returns : goal.returns
returns c = record { holds = faults_named }
