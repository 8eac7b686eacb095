-- The law is proved in `proofs/TableCommands.antt`.
use Rattle.layer_laws.proofs.TableCommands.{new_names_show}
use Rattle.layer_laws.proofs.new_names_show.Goals as goal

pub returns : goal.returns
returns c = record { holds = new_names_show }
