-- The law is proved in `proofs/PolygonGroups.antt`.
use Rattle.layer_laws.proofs.PolygonGroups.{dissolved_polygons_show}
use Rattle.layer_laws.proofs.dissolved_polygons_show.Goals as goal

pub returns : goal.returns
returns c = record { holds = dissolved_polygons_show }
