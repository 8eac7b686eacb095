use Rattle.json_values.proofs.PrintedTexts.{printed_text_denotes}
use Rattle.json_values.proofs.laws.printed_texts_denote.Goals as goal

pub returns : goal.returns
returns c = record { holds = λ d v p. printed_text_denotes d v p }
