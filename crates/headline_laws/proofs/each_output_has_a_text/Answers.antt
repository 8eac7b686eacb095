-- The law is proved in `proofs/Texts.antt`.
use Rattle.headline_laws.proofs.Texts.{texts_there}
use Rattle.headline_laws.proofs.each_output_has_a_text.Goals as goal

pub returns : goal.returns
returns c = record { holds = texts_there }
