-- The law is proved in `proofs/TableCommands.antt`.
use Rattle.layer_laws.proofs.TableCommands.{filtered_rows_show}
use Rattle.layer_laws.proofs.filtered_rows_show.Goals as goal

pub returns : goal.returns
returns c = record { holds = filtered_rows_show }
