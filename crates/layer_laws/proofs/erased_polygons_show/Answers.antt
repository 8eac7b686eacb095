-- The law is proved in `proofs/PolygonCuts.antt`.
use Rattle.layer_laws.proofs.PolygonCuts.{erased_polygons_show}
use Rattle.layer_laws.proofs.erased_polygons_show.Goals as goal

pub returns : goal.returns
returns c = record { holds = erased_polygons_show }
