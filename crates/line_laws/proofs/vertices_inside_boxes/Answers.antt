-- The law is proved in `proofs/SourcePoints.antt`.
use Rattle.line_laws.proofs.SourcePoints.{vertices_inside_boxes}
use Rattle.line_laws.proofs.vertices_inside_boxes.Goals as goal

pub returns : goal.returns
returns c = record { holds = vertices_inside_boxes }
