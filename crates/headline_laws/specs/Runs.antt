-- The law of runs: what the contract of a run says is what the model of a run binds it to.
use Rattle.std.specs.Prelude.{◌≡◌, List}
use Rattle.io_core.specs.Contents.{Content}
use Rattle.run_sources.specs.Sources.{SourcesSeen}
use Rattle.run_outcome.specs.Telling as run
use Rattle.run_outcome.specs.Telling.{StreamSeen}
use Rattle.run_outcome.specs.declared.outcome.Outcome.{Outcome}
use Rattle.run_chain.specs.Effects.{OutsideSeen}
use Rattle.run_chain.specs.Running.{WordsRun}
use Rattle.word_model.specs.Words.{words_say}
use Rattle.chain_model.specs.Headline.{Headline, IsRunOf, Seen}
use Rattle.chain_model.specs.Sources.{AreReadings, Readings}
use Rattle.headline_laws.specs.Causes.{counts_of}
use Rattle.headline_laws.specs.Messages.{messages_of}
use Rattle.headline_laws.specs.Outcomes.{outcome_as}
use Rattle.headline_laws.specs.Refused.{outside_of}

-- what is seen before or after a run
abbrev pub seen_of : SourcesSeen → OutsideSeen → StreamSeen → Seen
seen_of sources outside messages = record { outside = outside_of outside; input = sources.input; messages = messages_of messages; counts = counts_of sources outside }

-- ---- law: the answer binds what is there afterwards, where the sources are told
abbrev pub AnswersAreBound : Type 0
AnswersAreBound = (read : Readings) → AreReadings read → (line : List Content) (seen seen' : SourcesSeen) (before after : OutsideSeen) → before.files ≡ seen.files →
    (o : Outcome) → WordsRun line seen seen' before after o → Headline read (words_say read.refusals line) seen.input (outside_of before) (outcome_as o) (outside_of after)

-- ---- law: and all that binds a run does
abbrev pub RunsAreOfTheModel : Type 0
RunsAreOfTheModel = (read : Readings) → AreReadings read → (line : List Content) (seen seen' : SourcesSeen) (before after : OutsideSeen) → before.files ≡ seen.files →
    (o : Outcome) → WordsRun line seen seen' before after o → (told told' : StreamSeen) → run.TellsOutcome o told told' → IsRunOf read line (seen_of seen before told) (seen_of seen' after told') (outcome_as o)
