-- The law is proved in `proofs/Sources.antt`.
use Rattle.line_laws.proofs.Sources.{lines_cut_by_layers}
use Rattle.line_laws.proofs.lines_cut_by_layers.Goals as goal

pub returns : goal.returns
returns c = record { holds = lines_cut_by_layers }
