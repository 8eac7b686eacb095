-- The law is proved in `proofs/Texts.antt`.
use Rattle.headline_laws.proofs.PictureTexts.{texts_exist}
use Rattle.headline_laws.proofs.texts_exist.Goals as goal

pub returns : goal.returns
returns c = record { holds = texts_exist }
