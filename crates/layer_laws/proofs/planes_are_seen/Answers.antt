-- The law is proved in `proofs/PolygonPlanes.antt`.
use Rattle.layer_laws.proofs.PolygonPlanes.{planes_are_seen}
use Rattle.layer_laws.proofs.planes_are_seen.Goals as goal

pub returns : goal.returns
returns c = record { holds = planes_are_seen }
