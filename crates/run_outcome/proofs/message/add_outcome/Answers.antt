use Rattle.std.proofs.Common.{◌++◌, ap, sym, ◌∙◌}
use Rattle.run_outcome.specs.Messages.{outcome_text}
use Rattle.run_outcome.specs.declared.outcome.Outcome.{Outcome}
use Rattle.run_outcome.proofs.message.add_outcome.Goals as goal

pub returns-in-TooDense-clause-added : goal.returns-in-TooDense-clause-added
returns-in-TooDense-clause-added c =
    c.add_density.ensures.added ∙ sym (ap (λ (o : Outcome). c.args.line.now.bytes ++ outcome_text o) c.in-TooDense.is)
