-- The law is proved in `proofs/Texts.antt`.
use Rattle.headline_laws.proofs.PictureTexts.{texts_show}
use Rattle.headline_laws.proofs.texts_show.Goals as goal

pub returns : goal.returns
returns c = record { holds = texts_show }
