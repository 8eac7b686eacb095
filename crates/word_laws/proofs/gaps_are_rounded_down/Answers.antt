use Rattle.word_laws.proofs.Rounding.{rounded_down}
use Rattle.word_laws.proofs.gaps_are_rounded_down.Goals as goal

pub returns : goal.returns
returns c = record { holds = rounded_down }
