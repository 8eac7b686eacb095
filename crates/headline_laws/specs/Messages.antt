-- The law of messages: the line that a run offers for its outcome is that of the model.
use Rattle.run_outcome.specs.Telling.{StreamSeen}
use Rattle.run_outcome.specs.Telling as run
use Rattle.run_outcome.specs.declared.outcome.Outcome.{Outcome}
use Rattle.chain_model.specs.Messages as model
use Rattle.headline_laws.specs.Outcomes.{outcome_as}

-- what is seen of a stream of messages
abbrev pub messages_of : StreamSeen → model.MessagesSeen
messages_of seen = record { told = seen.told; faults = seen.faults }

-- what a run tells of an outcome is what the model tells
abbrev pub MessagesAreOfTheModel : Type 0
MessagesAreOfTheModel = (o : Outcome) (before after : StreamSeen) → run.TellsOutcome o before after → model.TellsOutcome (outcome_as o) (messages_of before) (messages_of after)
