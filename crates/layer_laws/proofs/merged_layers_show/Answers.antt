-- The law is proved in `proofs/Merging.antt`.
use Rattle.layer_laws.proofs.Merging.{merged_layers_show}
use Rattle.layer_laws.proofs.merged_layers_show.Goals as goal

pub returns : goal.returns
returns c = record { holds = merged_layers_show }
