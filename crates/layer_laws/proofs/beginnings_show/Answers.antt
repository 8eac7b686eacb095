-- The law is proved in `proofs/Begun.antt`.
use Rattle.layer_laws.proofs.Begun.{beginnings_show}
use Rattle.layer_laws.proofs.beginnings_show.Goals as goal

pub returns : goal.returns
returns c = record { holds = beginnings_show }
