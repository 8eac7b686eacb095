-- It is a node, or inside an arc, or on no arc.
use Rattle.point_laws.proofs.Vertices.{vertices_of_a_drawing}
use Rattle.point_laws.proofs.vertices_of_a_drawing.Goals as goal

pub returns : goal.returns
returns c = record { holds = vertices_of_a_drawing }
