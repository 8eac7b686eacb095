-- The law is proved in `proofs/Outlines.antt`.
use Rattle.layer_laws.proofs.Outlines.{inner_lines_show}
use Rattle.layer_laws.proofs.inner_lines_show.Goals as goal

pub returns : goal.returns
returns c = record { holds = inner_lines_show }
