-- The sector that it is seen from begins with the first dart of an arc.
use Rattle.point_laws.proofs.Nodes.{seen_nodes_are_inside}
use Rattle.point_laws.proofs.seen_nodes_are_inside.Goals as goal

pub returns : goal.returns
returns c = record { holds = seen_nodes_are_inside }
