-- What sees it, and what is seen.
use Rattle.point_laws.proofs.Nodes.{nodes_are_inside}
use Rattle.point_laws.proofs.nodes_are_inside.Goals as goal

pub returns : goal.returns
returns c = record { holds = nodes_are_inside }
