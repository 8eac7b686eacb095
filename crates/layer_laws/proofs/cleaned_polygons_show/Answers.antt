-- The law is proved in `proofs/PolygonCleaning.antt`.
use Rattle.layer_laws.proofs.PolygonCleaning.{cleaned_polygons_show}
use Rattle.layer_laws.proofs.cleaned_polygons_show.Goals as goal

pub returns : goal.returns
returns c = record { holds = cleaned_polygons_show }
