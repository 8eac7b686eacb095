-- The law is proved in `proofs/TableCommands.antt`.
use Rattle.layer_laws.proofs.TableCommands.{assigned_fields_show}
use Rattle.layer_laws.proofs.assigned_fields_show.Goals as goal

pub returns : goal.returns
returns c = record { holds = assigned_fields_show }
