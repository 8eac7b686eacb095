-- The law is proved in `proofs/Splitting.antt`.
use Rattle.layer_laws.proofs.Splitting.{pieces_are_shown}
use Rattle.layer_laws.proofs.pieces_show.Goals as goal

pub returns : goal.returns
returns c = record { holds = pieces_are_shown }
