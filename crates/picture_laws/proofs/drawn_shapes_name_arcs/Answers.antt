-- The law is proved in `proofs/Shapes.antt`.
use Rattle.picture_laws.proofs.Shapes.{drawn_shapes_name_arcs}
use Rattle.picture_laws.proofs.drawn_shapes_name_arcs.Goals as goal

pub returns : goal.returns
returns c = record { holds = drawn_shapes_name_arcs }
