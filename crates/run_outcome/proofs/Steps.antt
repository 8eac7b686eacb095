-- A line of text in steps.
use Rattle.std.proofs.Common.{◌≡◌}
use Rattle.run_outcome.specs.Messages.{message_line}
use Rattle.run_outcome.specs.Telling.{StreamSeen, Offers, TellsOutcome}
use Rattle.run_outcome.specs.declared.outcome.Outcome.{Outcome}
use Rattle.run_outcome.specs.declared.outcome.Outcome.TheVariants as outcome
use Rattle.std.proofs.Common.{refl}

-- every outcome but Done is told
pub tells : (o : Outcome) (before after : StreamSeen) → (o ≡ outcome.Done → ⊥) → Offers (message_line o) before after → TellsOutcome o before after
tells outcome.Done before after h offered = absurd (h refl)
tells (outcome.BadWords word why) before after h offered = offered
tells (outcome.ReadFault source) before after h offered = offered
tells (outcome.Missing source) before after h offered = offered
tells (outcome.TooLong source) before after h offered = offered
tells (outcome.BadInput source why) before after h offered = offered
tells (outcome.TooDense count) before after h offered = offered
tells (outcome.Refused command why) before after h offered = offered
tells (outcome.WriteFault command) before after h offered = offered
tells outcome.Memory before after h offered = offered
