-- The law is proved in `proofs/MosaicTold.antt`.
use Rattle.region_laws.proofs.MosaicTold.{mosaic_as_told}
use Rattle.region_laws.proofs.mosaic_as_told.Goals as goal

pub returns : goal.returns
returns c = record { holds = mosaic_as_told }
