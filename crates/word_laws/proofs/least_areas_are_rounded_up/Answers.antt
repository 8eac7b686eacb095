use Rattle.word_laws.proofs.Rounding.{rounded_up}
use Rattle.word_laws.proofs.least_areas_are_rounded_up.Goals as goal

pub returns : goal.returns
returns c = record { holds = rounded_up }
