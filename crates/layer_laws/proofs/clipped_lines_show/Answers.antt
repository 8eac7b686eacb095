-- The law is proved in `proofs/LineCuts.antt`.
use Rattle.layer_laws.proofs.LineCuts.{clipped_lines_show}
use Rattle.layer_laws.proofs.clipped_lines_show.Goals as goal

pub returns : goal.returns
returns c = record { holds = clipped_lines_show }
