use Rattle.headline_laws.proofs.Causes.{causes}
use Rattle.headline_laws.proofs.faults_have_causes.Goals as goal

pub returns : goal.returns
returns c = record { holds = causes }
