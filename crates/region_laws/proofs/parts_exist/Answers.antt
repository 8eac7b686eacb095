-- The law is proved in `proofs/PartsExist.antt`.
use Rattle.region_laws.proofs.PartsExist.{parts_exist}
use Rattle.region_laws.proofs.parts_exist.Goals as goal

pub returns : goal.returns
returns c = record { holds = parts_exist }
