-- The law is proved in `proofs/TableCommands.antt`.
use Rattle.layer_laws.proofs.TableCommands.{fields_show}
use Rattle.layer_laws.proofs.fields_show.Goals as goal

pub returns : goal.returns
returns c = record { holds = fields_show }
