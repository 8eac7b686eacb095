-- The law is proved in `proofs/Layers.antt`.
use Rattle.picture_laws.proofs.Layers.{pictures_show}
use Rattle.picture_laws.proofs.pictures_show.Goals as goal

pub returns : goal.returns
returns c = record { holds = pictures_show }
