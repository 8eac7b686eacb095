use Rattle.headline_laws.proofs.Beginning.{begun_alike}
use Rattle.headline_laws.proofs.chains_begin.Goals as goal

pub returns : goal.returns
returns c = record { holds = begun_alike }
