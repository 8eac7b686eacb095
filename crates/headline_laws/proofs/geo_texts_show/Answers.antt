-- The law is proved in `proofs/Texts.antt`.
use Rattle.headline_laws.proofs.PictureTexts.{geo_texts_show}
use Rattle.headline_laws.proofs.geo_texts_show.Goals as goal

pub returns : goal.returns
returns c = record { holds = geo_texts_show }
