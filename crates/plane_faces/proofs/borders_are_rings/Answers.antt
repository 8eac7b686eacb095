-- Each vertex has as many links of the border that arrive as leave.
use Rattle.plane_faces.proofs.Laws.{border_paths}
use Rattle.plane_faces.proofs.borders_are_rings.Goals as goal

pub returns : goal.returns
returns c = record { holds = border_paths }
