use Rattle.headline_laws.proofs.Ending.{contents_end}
use Rattle.headline_laws.proofs.contents_end_chains.Goals as goal

pub returns : goal.returns
returns c = record { holds = contents_end }
