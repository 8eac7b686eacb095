-- The law is proved in `proofs/Outlines.antt`.
use Rattle.layer_laws.proofs.Outlines.{outlines_are_shown}
use Rattle.layer_laws.proofs.outlines_show.Goals as goal

pub returns : goal.returns
returns c = record { holds = outlines_are_shown }
