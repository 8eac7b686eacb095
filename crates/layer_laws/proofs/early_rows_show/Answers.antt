-- The law is proved in `proofs/TableCommands.antt`.
use Rattle.layer_laws.proofs.TableCommands.{early_rows_show}
use Rattle.layer_laws.proofs.early_rows_show.Goals as goal

pub returns : goal.returns
returns c = record { holds = early_rows_show }
