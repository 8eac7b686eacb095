-- How a run ended, as the model of a run names it.
use Rattle.std.specs.Prelude.{◌≡◌}
use Rattle.run_outcome.specs.Status.{status_number}
use Rattle.run_outcome.specs.declared.outcome.Outcome.{Outcome}
use Rattle.run_outcome.specs.declared.outcome.Outcome.TheVariants as end
use Rattle.chain_model.specs.Outcome as model
use Rattle.layer_laws.specs.Reasons.{why_of}
use Rattle.headline_laws.specs.ToldSources.{input_as}

abbrev pub outcome_as : Outcome → model.Outcome
outcome_as end.Done = model.done
outcome_as (end.BadWords word why) = model.bad_words word why
outcome_as (end.ReadFault source) = model.read_fault source
outcome_as (end.Missing source) = model.missing source
outcome_as (end.TooLong source) = model.too_long source
outcome_as (end.BadInput source why) = model.bad_input source (input_as why)
outcome_as (end.TooDense count) = model.too_dense count
outcome_as (end.Refused command why) = model.refused command (why_of why)
outcome_as (end.WriteFault command) = model.write_fault command
outcome_as end.Memory = model.memory

-- ---- law: the status of an outcome is the one that the model gives it
abbrev pub StatusesAreOfTheModel : Type 0
StatusesAreOfTheModel = (o : Outcome) → status_number o ≡ model.status_of (outcome_as o)
