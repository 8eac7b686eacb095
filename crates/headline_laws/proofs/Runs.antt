-- What is bound by the answer of a run of words.
use Rattle.std.proofs.Common.{◌≡◌, sym, ap, ◌∙◌, subst, List, Option, Some, Result, Ok, Err}
use Rattle.io_core.specs.Contents.{Content, FileMap}
use Rattle.cmd_words.specs.Words.{JobWords, Reading}
use Rattle.cmd_words.specs.declared.fault.WordFault.{WordFault}
use Rattle.cmd_words.specs.declared.fault.WordFault.TheVariants as words
use Rattle.job_terms.specs.declared.job.Job.{Job}
use Rattle.job_terms.specs.declared.job.Job.TheVariants as job
use Rattle.run_sources.specs.Sources.{SourcesSeen}
use Rattle.run_outcome.specs.declared.outcome.Outcome.{Outcome}
use Rattle.run_chain.specs.Effects.{OutsideSeen}
use Rattle.run_chain.specs.Running.{JobRuns, ReadsWords, WordsRun}
use Rattle.word_model.specs.Words.{words_say}
use Rattle.chain_model.specs.Headline.{Binds, HasCause, Headline, needed_files, needed_input}
use Rattle.chain_model.specs.Sources.{AreReadings, Readings}
use Rattle.headline_laws.specs.ToldSources.{AreTold}
use Rattle.headline_laws.specs.Causes.{counts_of}
use Rattle.headline_laws.specs.Outcomes.{outcome_as}
use Rattle.headline_laws.specs.Refused.{outside_of}
use Rattle.headline_laws.proofs.Causes.{causes}
use Rattle.headline_laws.proofs.Refused.{refused_words}
use Rattle.headline_laws.proofs.Said.{said_by}
use Rattle.headline_laws.proofs.Unchanged.{unchanged}
use Rattle.headline_laws.specs.Runs.{AnswersAreBound}
use Rattle.headline_laws.proofs.Chains.{chain_bound}
use Rattle.headline_laws.proofs.Mosaics.{mosaic_bound}
use Rattle.headline_laws.proofs.Same.{memory_bound, where_told}

module _ (read : Readings) (right : AreReadings read) (line : List Content) (seen seen' : SourcesSeen) (before after : OutsideSeen) (o : Outcome) where
  abbrev said : Reading JobWords
  said = words_say read.refusals line

  bound_by : (files : FileMap) (bytes : Content) → AreTold said seen files bytes → (answer : Result Job WordFault) → ReadsWords line answer → JobRuns answer seen seen' before after o → Binds read said files bytes (outside_of before) (outside_of after) (outcome_as o)
  bound_by files bytes are (Err (words.Bad n why)) reads runs =
      let run : WordsRun line seen seen' before after o = record { answer = Err (words.Bad n why); reads = reads; runs = runs } in
      (refused_words read right line n why (said_by read.refusals right.expressions line (Err (words.Bad n why)) reads) seen seen' before after o run).1 files bytes
  bound_by files bytes are (Err words.Memory) reads runs = memory_bound read line files bytes (outside_of before) (outside_of after) o runs.ends (unchanged before after runs.outside)
  bound_by files bytes are (Ok (job.Synth seed n)) reads runs = mosaic_bound read line seed n seen seen' files bytes (record { right = right; asked = reads; told = are }) before after o runs
  bound_by files bytes are (Ok (job.Chain c)) reads runs = chain_bound read line c seen files bytes (record { right = right; asked = reads; told = are }) before after o seen' runs

  module _ (run : WordsRun line seen seen' before after o) (same : before.files ≡ seen.files) where
    pub are_told : (files : FileMap) (bytes : Content) → needed_files said before.files ≡ Some files → needed_input said seen.input ≡ Some bytes → AreTold said seen files bytes
    are_told files bytes of_files of_input = record { of_files = ap (needed_files said) (sym same) ∙ of_files; of_input = of_input }

    pub bound_where : (files : FileMap) (bytes : Content) → needed_files said before.files ≡ Some files → needed_input said seen.input ≡ Some bytes → Binds read said files bytes (outside_of before) (outside_of after) (outcome_as o)
    bound_where files bytes of_files of_input = bound_by files bytes (are_told files bytes of_files of_input) run.answer run.reads run.runs

    pub means : Headline read said seen.input (outside_of before) (outcome_as o) (outside_of after)
    means = where_told (needed_files said before.files) _ (λ files of_files. where_told (needed_input said seen.input) _ (λ bytes of_input. bound_where files bytes of_files of_input))

    pub cause : HasCause said before.files seen.input (counts_of seen before) (counts_of seen' after) (outcome_as o)
    cause = subst (λ (files : Option FileMap). HasCause said files seen.input (counts_of seen before) (counts_of seen' after) (outcome_as o)) (sym same) (causes read.refusals right.expressions line seen seen' before after o run)

pub answers_bound : AnswersAreBound
answers_bound read right line seen seen' before after same o run = means read right line seen seen' before after o run same
