use Rattle.word_laws.proofs.Calculations.{of_grammar}
use Rattle.word_laws.proofs.calculations_are_of_the_grammar.Goals as goal

pub returns : goal.returns
returns c = record { holds = of_grammar }
