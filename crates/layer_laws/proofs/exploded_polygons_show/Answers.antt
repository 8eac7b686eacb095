-- The law is proved in `proofs/PolygonParts.antt`.
use Rattle.layer_laws.proofs.PolygonParts.{exploded_polygons_show}
use Rattle.layer_laws.proofs.exploded_polygons_show.Goals as goal

pub returns : goal.returns
returns c = record { holds = exploded_polygons_show }
