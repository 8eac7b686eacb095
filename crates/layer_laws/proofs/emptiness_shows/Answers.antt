-- The law is proved in `proofs/Empty.antt`.
use Rattle.layer_laws.proofs.Empty.{emptiness_shows}
use Rattle.layer_laws.proofs.emptiness_shows.Goals as goal

pub returns : goal.returns
returns c = record { holds = emptiness_shows }
