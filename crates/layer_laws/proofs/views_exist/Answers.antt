-- The law is proved in `proofs/Views.antt`.
use Rattle.layer_laws.proofs.Views.{views_exist}
use Rattle.layer_laws.proofs.views_exist.Goals as goal

pub returns : goal.returns
returns c = record { holds = views_exist }
