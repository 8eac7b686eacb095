-- Laws of chains that end before their commands begin: at a source, or at the drawing of all of them.
use Rattle.std.specs.Prelude.{◌≡◌, ◌≢◌, ℕ, ⊤, List, Ok, Err}
use Rattle.io_core.specs.Contents.{Content, FileMap}
use Rattle.job_terms.specs.declared.job.Chain.{Chain}
use Rattle.job_terms.specs.declared.job.Job.{Job}
use Rattle.job_terms.specs.declared.job.Job.TheVariants as job
use Rattle.run_sources.specs.Sources.{SourcesSeen}
use Rattle.run_outcome.specs.declared.outcome.Outcome.{Outcome}
use Rattle.run_outcome.specs.declared.outcome.Outcome.TheVariants as end
use Rattle.run_chain.specs.Effects.{OutsideSeen}
use Rattle.run_chain.specs.Running.{EndsBefore, ReadsWords, ToldAlone}
use Rattle.word_model.specs.Words.{words_say}
use Rattle.chain_model.specs.Headline.{Binds}
use Rattle.chain_model.specs.Running.{begins}
use Rattle.chain_model.specs.Sources.{AreReadings, Readings}
use Rattle.headline_laws.specs.ToldSources.{AreTold}
use Rattle.headline_laws.specs.Outcomes.{outcome_as}
use Rattle.headline_laws.specs.Refused.{outside_of}

-- the words ask for this job, and files hold these contents and standard input these bytes, as far as they are its
-- sources
pub record IsAsked (read : Readings) (line : List Content) (j : Job) (seen : SourcesSeen) (files : FileMap) (bytes : Content) : Type 0 where
  pub right : AreReadings read
  pub asked : ReadsWords line (Ok j)
  pub told : AreTold (words_say read.refusals line) seen files bytes

-- contents bring this end, and no failed read or want of memory
abbrev pub IsOfContents : Outcome → Type 0
IsOfContents (end.Missing n) = ⊤
IsOfContents (end.TooLong n) = ⊤
IsOfContents (end.BadInput n why) = ⊤
IsOfContents (end.TooDense count) = ⊤
IsOfContents _ = ⊥

-- ---- law: where contents end a chain before its commands begin, the model says just that of them
abbrev pub ContentsEndChains : Type 0
ContentsEndChains = (read : Readings) (line : List Content) (c : Chain) (seen seen' : SourcesSeen) (files : FileMap) (bytes : Content) → IsAsked read line (job.Chain c) seen files bytes →
    (before after : OutsideSeen) (o : Outcome) → EndsBefore c seen seen' before after o → IsOfContents o → begins read c files bytes ≡ Err (outcome_as o)

-- ---- law: so the answer of a chain that ends there, other than want of memory, binds what is there afterwards
abbrev pub ChainsEndBeforeTheyBegin : Type 0
ChainsEndBeforeTheyBegin = (read : Readings) (line : List Content) (c : Chain) (seen seen' : SourcesSeen) (files : FileMap) (bytes : Content) → IsAsked read line (job.Chain c) seen files bytes →
    (before after : OutsideSeen) (o : Outcome) → EndsBefore c seen seen' before after o → o ≢ end.Memory → Binds read (words_say read.refusals line) files bytes (outside_of before) (outside_of after) (outcome_as o)

-- ---- law: and so does that of a made-up mosaic which is too dense
abbrev pub DenseMosaicsEndTheRun : Type 0
DenseMosaicsEndTheRun = (read : Readings) → AreReadings read → (line : List Content) (seed n : ℕ) → ReadsWords line (Ok (job.Synth seed n)) → (seen seen' : SourcesSeen) (files : FileMap) (bytes : Content) →
    (before after : OutsideSeen) (o : Outcome) → ToldAlone seed n seen seen' before after o → (count : ℕ) → o ≡ end.TooDense count → Binds read (words_say read.refusals line) files bytes (outside_of before) (outside_of after) (outcome_as o)
