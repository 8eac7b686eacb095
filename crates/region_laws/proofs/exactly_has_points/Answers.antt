-- The sets that have the face of a point are those whose regions have the point.
use Rattle.region_laws.proofs.Mosaics.{exactly_has_points}
use Rattle.region_laws.proofs.exactly_has_points.Goals as goal

pub returns : goal.returns
returns c = record { holds = exactly_has_points }
