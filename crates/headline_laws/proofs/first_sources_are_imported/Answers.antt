-- The law is proved in `proofs/Sources.antt`.
use Rattle.headline_laws.proofs.Sources.{first_sources}
use Rattle.headline_laws.proofs.first_sources_are_imported.Goals as goal

pub returns : goal.returns
returns c = record { holds = first_sources }
