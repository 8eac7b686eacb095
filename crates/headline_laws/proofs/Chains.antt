-- The answer of a chain binds what is there afterwards.
use Rattle.std.proofs.Common.{◌≡◌, ◌⊎◌, inl, inr, refl, sym, subst, List, Ok}
use Rattle.std.specs.Prelude.{◌≢◌}
use Rattle.io_core.specs.Contents.{Content, FileMap}
use Rattle.job_terms.specs.declared.job.Chain.{Chain}
use Rattle.job_terms.specs.declared.job.Job.TheVariants as job
use Rattle.run_sources.specs.Sources.{SourcesSeen}
use Rattle.run_state.specs.Targets.{first_layers}
use Rattle.run_outcome.specs.declared.outcome.Outcome.{Outcome}
use Rattle.run_outcome.specs.declared.outcome.Outcome.TheVariants as end
use Rattle.run_chain.specs.Effects.{OutsideSeen}
use Rattle.run_chain.specs.Running.{BegunRuns, ChainRuns, EndsBefore, RunsCommands}
use Rattle.word_model.specs.Words.{words_say}
use Rattle.chain_model.specs.Headline.{Binds, Outside}
use Rattle.chain_model.specs.Running.{Begun, begins}
use Rattle.chain_model.specs.Sources.{Readings}
use Rattle.headline_laws.specs.Outcomes.{outcome_as}
use Rattle.headline_laws.specs.Refused.{outside_of}
use Rattle.headline_laws.proofs.Unchanged.{keeps}
use Rattle.headline_laws.specs.Begins.{BegunShows}
use Rattle.headline_laws.specs.Ends.{IsAsked}
use Rattle.headline_laws.proofs.Beginning.{begun_alike}
use Rattle.headline_laws.proofs.Ending.{ended_before}
use Rattle.headline_laws.specs.Bound.{BeginsSeen}
use Rattle.headline_laws.proofs.Bound.{bound, unbegun}
use Rattle.headline_laws.proofs.Same.{memory_bound, outside_same}
use Rattle.headline_laws.proofs.Steps.{all_commands}
use Rattle.headline_laws.proofs.Texts.{texts_there}

-- an end is want of memory, or another
memory_or_not : (o : Outcome) → (o ≡ end.Memory) ⊎ (o ≢ end.Memory)
memory_or_not end.Done = inr (λ e. absurd (cc))
memory_or_not (end.BadWords n why) = inr (λ e. absurd (cc))
memory_or_not (end.ReadFault n) = inr (λ e. absurd (cc))
memory_or_not (end.Missing n) = inr (λ e. absurd (cc))
memory_or_not (end.TooLong n) = inr (λ e. absurd (cc))
memory_or_not (end.BadInput n why) = inr (λ e. absurd (cc))
memory_or_not (end.TooDense count) = inr (λ e. absurd (cc))
memory_or_not (end.Refused n why) = inr (λ e. absurd (cc))
memory_or_not (end.WriteFault n) = inr (λ e. absurd (cc))
memory_or_not end.Memory = inl refl

module _ (read : Readings) (line : List Content) (c : Chain) (seen : SourcesSeen) (files : FileMap) (bytes : Content) (a : IsAsked read line (job.Chain c) seen files bytes) (before after : OutsideSeen) (o : Outcome) where
  abbrev Bound : Outside → Type 0
  Bound was = Binds read (words_say read.refusals line) files bytes was (outside_of after) (outcome_as o)

  begun_bound : (run : RunsCommands c seen before after o) (b : Begun) → begins read c files bytes ≡ Ok b → BegunShows c run.begun run.base b → Bound (outside_of before)
  begun_bound run b begun shows = subst Bound (outside_same before run.middle run.kept.files run.kept.stream) (go run.ran)
    where
      here : BeginsSeen c shows.view run.base (first_layers run.begun) b
      here = record { is_view = shows.is_view; plane = shows.of_view; places = shows.places; commands = shows.commands; state = shows.state }

      go : BegunRuns run.base run.begun c.commands run.middle after o → Bound (outside_of run.middle)
      go (inl ran) =
          bound read line c seen files bytes a b begun shows.view run.base (first_layers run.begun) here
          (all_commands shows.view shows.is_view run.base shows.seen b.sources shows.sources c.commands (first_layers run.begun) b.state shows.state) (texts_there shows.view shows.is_view run.base) run.middle after o ran
      go (inr (e, kept)) = subst (λ (x : Outcome). Binds read (words_say read.refusals line) files bytes (outside_of run.middle) (outside_of after) (outcome_as x)) (sym e)
          (unbegun read line c seen files bytes a b begun shows.view run.base (first_layers run.begun) here (texts_there shows.view shows.is_view run.base) run.middle after kept)

  early_bound : (seen' : SourcesSeen) → EndsBefore c seen seen' before after o → Bound (outside_of before)
  early_bound seen' ends = go (memory_or_not o)
    where
      go : (o ≡ end.Memory) ⊎ (o ≢ end.Memory) → Bound (outside_of before)
      go (inl is) = memory_bound read line files bytes (outside_of before) (outside_of after) o is (keeps before after ends.kept.files ends.kept.stream)
      go (inr lasts) = ended_before read line c seen seen' files bytes a before after o ends lasts

  pub chain_bound : (seen' : SourcesSeen) → ChainRuns c seen seen' before after o → Bound (outside_of before)
  chain_bound seen' (inl ends) = early_bound seen' ends
  chain_bound seen' (inr run) = let x = begun_alike read line c seen files bytes a before after o run in begun_bound run x.0 x.1 x.2
