-- The law is proved in `proofs/LinePieces.antt`.
use Rattle.layer_laws.proofs.LinePieces.{exploded_lines_show}
use Rattle.layer_laws.proofs.exploded_lines_show.Goals as goal

pub returns : goal.returns
returns c = record { holds = exploded_lines_show }
