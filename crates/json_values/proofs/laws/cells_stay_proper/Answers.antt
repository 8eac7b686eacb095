use Rattle.json_values.proofs.PrintedCells.{cell_proper}
use Rattle.json_values.proofs.laws.cells_stay_proper.Goals as goal

pub returns : goal.returns
returns c = record { holds = cell_proper }
