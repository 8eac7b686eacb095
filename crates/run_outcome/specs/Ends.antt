-- The outcome of a run that ends early.
use Rattle.std.specs.Prelude.{ℕ}
use Rattle.cmd_words.specs.declared.fault.WordFault.{WordFault}
use Rattle.cmd_words.specs.declared.fault.WordFault.TheVariants as words
use Rattle.snap_round.specs.declared.fault.SnapFault.{SnapFault}
use Rattle.snap_round.specs.declared.fault.SnapFault.TheVariants as snap
use Rattle.run_sources.specs.declared.fault.SourceFault.{SourceFault}
use Rattle.run_sources.specs.declared.fault.SourceFault.TheVariants as source
use Rattle.run_state.specs.declared.state.CommandStop.{CommandStop}
use Rattle.run_state.specs.declared.state.CommandStop.TheVariants as stop
use Rattle.run_outcome.specs.declared.outcome.Outcome.{Outcome}
use Rattle.run_outcome.specs.declared.outcome.Outcome.TheVariants.{BadWords, ReadFault, Missing, TooLong, BadInput, TooDense, Refused, Memory}

-- at its words
abbrev pub of_words : WordFault → Outcome
of_words (words.Bad word why) = BadWords word why
of_words words.Memory = Memory

-- at a source
abbrev pub of_sources : SourceFault → Outcome
of_sources (source.ReadFault n) = ReadFault n
of_sources (source.Missing n) = Missing n
of_sources (source.TooLong n) = TooLong n
of_sources (source.BadInput n why) = BadInput n why
of_sources source.Memory = Memory

-- at the drawing of its sources
abbrev pub of_drawing : SnapFault → Outcome
of_drawing (snap.TooDense count) = TooDense count
of_drawing snap.Memory = Memory

-- at the command with this number
abbrev pub of_command : ℕ → CommandStop → Outcome
of_command n (stop.Refused why) = Refused n why
of_command n stop.Memory = Memory
