use Rattle.headline_laws.proofs.Bound.{bound}
use Rattle.headline_laws.proofs.commands_are_bound.Goals as goal

pub returns : goal.returns
returns c = record { holds = bound }
