-- The law is proved in `proofs/SetsExist.antt`.
use Rattle.region_laws.proofs.SetsExist.{regions_have_sets}
use Rattle.region_laws.proofs.regions_have_sets.Goals as goal

pub returns : goal.returns
returns c = record { holds = regions_have_sets }
