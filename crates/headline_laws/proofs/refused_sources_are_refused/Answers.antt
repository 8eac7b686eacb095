use Rattle.headline_laws.proofs.Sources.{refused_sources}
use Rattle.headline_laws.proofs.refused_sources_are_refused.Goals as goal

pub returns : goal.returns
returns c = record { holds = refused_sources }
