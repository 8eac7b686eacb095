-- The law is proved in `proofs/SetsExist.antt`.
use Rattle.region_laws.proofs.SetsExist.{answers_exist}
use Rattle.region_laws.proofs.answers_exist.Goals as goal

pub returns : goal.returns
returns c = record { holds = answers_exist }
