-- The law is proved in `proofs/TableCommands.antt`.
use Rattle.layer_laws.proofs.TableCommands.{joins_show}
use Rattle.layer_laws.proofs.joins_show.Goals as goal

pub returns : goal.returns
returns c = record { holds = joins_show }
