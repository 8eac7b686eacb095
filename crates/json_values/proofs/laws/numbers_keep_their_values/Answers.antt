use Rattle.json_values.proofs.PrintedTexts.{number_kept}
use Rattle.json_values.proofs.laws.numbers_keep_their_values.Goals as goal

pub returns : goal.returns
returns c = record { holds = λ s. number_kept s }
