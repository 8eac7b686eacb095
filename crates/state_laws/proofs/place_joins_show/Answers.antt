-- The law is proved in `proofs/PlaceJoins.antt`.
use Rattle.state_laws.proofs.PlaceJoins.{place_joins_show}
use Rattle.state_laws.proofs.place_joins_show.Goals as goal

pub returns : goal.returns
returns c = record { holds = place_joins_show }
