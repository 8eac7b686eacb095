-- The law is proved in `proofs/PolygonCuts.antt`.
use Rattle.layer_laws.proofs.PolygonCuts.{clipped_polygons_show}
use Rattle.layer_laws.proofs.clipped_polygons_show.Goals as goal

pub returns : goal.returns
returns c = record { holds = clipped_polygons_show }
