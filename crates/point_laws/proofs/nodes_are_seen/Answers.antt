-- The first dart of an arc that has its face on the left begins a sector, and a point sees the vertex from there.
use Rattle.point_laws.proofs.Nodes.{nodes_are_seen}
use Rattle.point_laws.proofs.nodes_are_seen.Goals as goal

pub returns : goal.returns
returns c = record { holds = nodes_are_seen }
