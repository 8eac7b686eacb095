-- Snapped links are an arrangement, and no vertex inside a whole arc has more links than two.
use Rattle.point_laws.proofs.Nodes.{nodes_of_a_drawing}
use Rattle.point_laws.proofs.nodes_of_a_drawing.Goals as goal

pub returns : goal.returns
returns c = record { holds = nodes_of_a_drawing }
