-- The law is proved in `proofs/Begun.antt`.
use Rattle.layer_laws.proofs.Begun.{drawings_are_one}
use Rattle.layer_laws.proofs.drawings_are_one.Goals as goal

pub returns : goal.returns
returns c = record { holds = drawings_are_one }
