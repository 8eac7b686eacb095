-- The law is proved in `proofs/TableSteps.antt`.
use Rattle.state_laws.proofs.TableSteps.{table_steps_show}
use Rattle.state_laws.proofs.table_steps_show.Goals as goal

pub returns : goal.returns
returns c = record { holds = table_steps_show }
