use Rattle.json_read.proofs.ProperValues.{text_proper}
use Rattle.json_read.proofs.laws.texts_denote_proper_values.Goals as goal

pub returns : goal.returns
returns c = record { holds = λ d t v h. text_proper h }
