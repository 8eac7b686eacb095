-- The law is proved in `proofs/LinkSides.antt`.
use Rattle.line_laws.proofs.LinkSides.{drawings_are_labelled}
use Rattle.line_laws.proofs.drawings_are_labelled.Goals as goal

pub returns : goal.returns
returns c = record { holds = drawings_are_labelled }
