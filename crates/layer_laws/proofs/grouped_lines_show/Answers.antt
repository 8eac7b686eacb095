-- The law is proved in `proofs/LineGroups.antt`.
use Rattle.layer_laws.proofs.LineGroups.{grouped_lines_show}
use Rattle.layer_laws.proofs.grouped_lines_show.Goals as goal

pub returns : goal.returns
returns c = record { holds = grouped_lines_show }
