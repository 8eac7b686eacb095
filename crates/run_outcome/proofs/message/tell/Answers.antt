use Rattle.std.proofs.Common.{◌++◌, codes, ap, subst, ◌∙◌}
use Rattle.topo_io.proofs.TextLemmas.{three}
use Rattle.run_outcome.specs.Messages.{Text, outcome_text}
use Rattle.run_outcome.specs.Telling.{StreamSeen, Offers, stream_seen}
use Rattle.run_outcome.proofs.Steps.{tells}
use Rattle.run_outcome.proofs.message.tell.Goals as goal

pub returns : goal.returns
returns g c =
    let o = c.args.outcome.now in
    let before : StreamSeen = stream_seen g.M.Sink c.args.messages.now in
    let after : StreamSeen = stream_seen g.M.Sink c.offer.new.messages in
    let line = c.as_str.ensures.value
    ∙ three c.new-line.result.bytes (codes "ms_cli: ") (outcome_text o) (codes "\n")
    c.push_str.new.self.bytes c.add_outcome.new.line.bytes c.push_str-2.new.self.bytes
    c.push_str.ensures.bytes c.add_outcome.ensures.added c.push_str-2.ensures.bytes
    ∙ ap (λ (xs : Text). xs ++ (codes "ms_cli: " ++ (outcome_text o ++ codes "\n"))) c.new-line.ensures in
    record { told = tells o before after c.in_default.not-Done (subst (λ (t : Text). Offers t before after) line c.offer.ensures.offered) }
