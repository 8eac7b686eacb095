-- What the stream of messages holds after a run: one line for an outcome other than Done, or a front of it.
use Rattle.std.specs.Prelude.{◌≡◌, ℕ, ◌<◌, ◌⊎◌, Option, take, length}
use Rattle.std.specs.Io.KnownBytes.{Appends}
use Rattle.io_core.specs.Counts.{Rose}
use Rattle.io_core.specs.Contents.{Content}
use Rattle.io_core.specs.declared.outside.Sink as Sink
use Rattle.run_outcome.specs.Messages.{message_line}
use Rattle.run_outcome.specs.declared.outcome.Outcome.{Outcome}
use Rattle.run_outcome.specs.declared.outcome.Outcome.TheVariants as outcome

-- a stream, as far as it tells what it holds, with its count of failed writes
pub record StreamSeen : Type 0 where
  pub told : Option Content
  pub faults : ℕ

abbrev pub stream_seen : {T : Type 0} → Sink.Ghosts T → T → StreamSeen
stream_seen K stream = record { told = K.held stream; faults = K.faults stream }

-- a front of a text that isn't all of it was added, where the stream tells what it holds
pub record AddsFront (before after : Option Content) (text : Content) : Type 0 where
  pub count : ℕ
  pub cut : count < length text
  pub added : Appends before after (take count text)

-- the text was added, or the count of failed writes rose and a front of it was
abbrev pub Offers : Content → StreamSeen → StreamSeen → Type 0
Offers text before after = Appends before.told after.told text ⊎ (Rose before.faults after.faults × AddsFront before.told after.told text)

abbrev pub TellsOutcome : Outcome → StreamSeen → StreamSeen → Type 0
TellsOutcome outcome.Done before after = after ≡ before
TellsOutcome o before after = Offers (message_line o) before after
