use Rattle.headline_laws.proofs.Messages.{messages}
use Rattle.headline_laws.proofs.messages_are_of_the_model.Goals as goal

pub returns : goal.returns
returns c = record { holds = messages }
