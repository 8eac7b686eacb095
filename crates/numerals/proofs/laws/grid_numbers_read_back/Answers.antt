use Rattle.numerals.proofs.GridNumbers.{grid_reads_back}
use Rattle.numerals.proofs.laws.grid_numbers_read_back.Goals as goal

pub returns : goal.returns
returns c = record { holds = grid_reads_back }
