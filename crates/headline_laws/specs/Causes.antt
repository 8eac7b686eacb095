-- A law of runs: each answer has a cause.
use Rattle.std.specs.Prelude.{List}
use Rattle.io_core.specs.Contents.{Content}
use Rattle.cmd_words.specs.Expressions.{Refusals, AreRefusals}
use Rattle.run_sources.specs.Sources.{SourcesSeen}
use Rattle.run_outcome.specs.declared.outcome.Outcome.{Outcome}
use Rattle.run_chain.specs.Effects.{OutsideSeen}
use Rattle.run_chain.specs.Running.{WordsRun}
use Rattle.word_model.specs.Words.{words_say}
use Rattle.chain_model.specs.Headline.{Counts, HasCause}
use Rattle.headline_laws.specs.Outcomes.{outcome_as}

-- the counts of the sources, of the files that are written and of the standard stream
abbrev pub counts_of : SourcesSeen → OutsideSeen → Counts
counts_of sources outside = record {
  reads = sources.file_faults;
  writes = outside.file_faults;
  input = sources.input_faults;
  output = outside.stream_faults;
  file_bytes = sources.file_bytes;
  input_bytes = sources.input_bytes;
}

abbrev pub FaultsHaveCauses : Type 0
FaultsHaveCauses = (refuses : Refusals) → AreRefusals refuses → (words : List Content) (seen seen' : SourcesSeen) (before after : OutsideSeen) (o : Outcome) → WordsRun words seen seen' before after o
    → HasCause (words_say refuses words) seen.files seen.input (counts_of seen before) (counts_of seen' after) (outcome_as o)
