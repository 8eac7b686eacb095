use Rattle.numerals.proofs.GridNumbers.{rounded_is_nearest}
use Rattle.numerals.proofs.laws.rounded_is_nearest.Goals as goal

pub returns : goal.returns
returns c = record { holds = rounded_is_nearest }
