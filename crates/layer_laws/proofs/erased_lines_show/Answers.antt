-- The law is proved in `proofs/LineCuts.antt`.
use Rattle.layer_laws.proofs.LineCuts.{erased_lines_show}
use Rattle.layer_laws.proofs.erased_lines_show.Goals as goal

pub returns : goal.returns
returns c = record { holds = erased_lines_show }
