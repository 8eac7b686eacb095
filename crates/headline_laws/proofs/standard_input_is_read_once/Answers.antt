use Rattle.headline_laws.proofs.Once.{read_once}
use Rattle.headline_laws.proofs.standard_input_is_read_once.Goals as goal

pub returns : goal.returns
returns c = record { holds = read_once }
