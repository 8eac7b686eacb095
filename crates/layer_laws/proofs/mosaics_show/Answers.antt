-- The law is proved in `proofs/PolygonParts.antt`.
use Rattle.layer_laws.proofs.PolygonParts.{mosaics_show}
use Rattle.layer_laws.proofs.mosaics_show.Goals as goal

pub returns : goal.returns
returns c = record { holds = mosaics_show }
