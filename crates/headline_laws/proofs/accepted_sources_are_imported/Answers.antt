use Rattle.headline_laws.proofs.Sources.{accepted_sources}
use Rattle.headline_laws.proofs.accepted_sources_are_imported.Goals as goal

pub returns : goal.returns
returns c = record { holds = accepted_sources }
