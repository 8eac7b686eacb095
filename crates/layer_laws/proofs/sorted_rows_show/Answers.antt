-- The law is proved in `proofs/TableCommands.antt`.
use Rattle.layer_laws.proofs.TableCommands.{sorted_rows_show}
use Rattle.layer_laws.proofs.sorted_rows_show.Goals as goal

pub returns : goal.returns
returns c = record { holds = sorted_rows_show }
