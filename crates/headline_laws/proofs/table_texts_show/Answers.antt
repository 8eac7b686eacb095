-- The law is proved in `proofs/Texts.antt`.
use Rattle.headline_laws.proofs.PictureTexts.{table_texts_show}
use Rattle.headline_laws.proofs.table_texts_show.Goals as goal

pub returns : goal.returns
returns c = record { holds = table_texts_show }
