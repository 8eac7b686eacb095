-- The law is proved in `proofs/PolygonCuts.antt`.
use Rattle.layer_laws.proofs.PolygonCuts.{cut_sets_show}
use Rattle.layer_laws.proofs.cut_sets_show.Goals as goal

pub returns : goal.returns
returns c = record { holds = cut_sets_show }
