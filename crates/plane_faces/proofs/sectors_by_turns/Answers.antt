-- Begun at the last quarter, the row is the one from straight down.
use Rattle.plane_faces.proofs.Axis.{sectors_of_turns}
use Rattle.plane_faces.proofs.sectors_by_turns.Goals as goal

pub returns : goal.returns
returns c = record { holds = sectors_of_turns }
