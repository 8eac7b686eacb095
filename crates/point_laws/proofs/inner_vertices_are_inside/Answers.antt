-- From each side of the arc some point sees the vertex.
use Rattle.point_laws.proofs.InnerVertices.{inner_vertices_are_inside}
use Rattle.point_laws.proofs.inner_vertices_are_inside.Goals as goal

pub returns : goal.returns
returns c = record { holds = inner_vertices_are_inside }
