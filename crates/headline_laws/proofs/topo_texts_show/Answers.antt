-- The law is proved in `proofs/Texts.antt`.
use Rattle.headline_laws.proofs.PictureTexts.{topo_texts_show}
use Rattle.headline_laws.proofs.topo_texts_show.Goals as goal

pub returns : goal.returns
returns c = record { holds = topo_texts_show }
