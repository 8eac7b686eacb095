-- The sets that have the face of a point are those whose regions have the point.
use Rattle.region_laws.proofs.Mosaics.{mosaics_are_followed}
use Rattle.region_laws.proofs.mosaics_are_followed.Goals as goal

pub returns : goal.returns
returns c = record { holds = mosaics_are_followed }
