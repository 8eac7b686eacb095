use Rattle.numerals.proofs.RoundTrip.{reads_back}
use Rattle.numerals.proofs.laws.decimals_read_back.Goals as goal

pub returns : goal.returns
returns c = record { holds = λ units l. reads_back units l }
