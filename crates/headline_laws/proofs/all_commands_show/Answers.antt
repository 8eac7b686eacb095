-- The law is proved in `proofs/Steps.antt`.
use Rattle.headline_laws.proofs.Steps.{all_commands}
use Rattle.headline_laws.proofs.all_commands_show.Goals as goal

pub returns : goal.returns
returns c = record { holds = all_commands }
