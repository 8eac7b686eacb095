-- The law is proved in `proofs/PolygonIslands.antt`.
use Rattle.layer_laws.proofs.PolygonIslands.{islands_show}
use Rattle.layer_laws.proofs.islands_show.Goals as goal

pub returns : goal.returns
returns c = record { holds = islands_show }
