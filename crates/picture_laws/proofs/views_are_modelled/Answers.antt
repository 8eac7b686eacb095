-- The law is proved in `proofs/Planes.antt`.
use Rattle.picture_laws.proofs.PicturePlanes.{views_are_modelled}
use Rattle.picture_laws.proofs.views_are_modelled.Goals as goal

pub returns : goal.returns
returns c = record { holds = views_are_modelled }
