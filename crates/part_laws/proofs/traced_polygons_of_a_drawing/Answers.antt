-- The links of a snapped drawing are an arrangement, and whole arcs are free inside.
use Rattle.part_laws.proofs.DrawnLaws.{traced_polygons_of_a_drawing}
use Rattle.part_laws.proofs.traced_polygons_of_a_drawing.Goals as goal

pub returns : goal.returns
returns c = record { holds = traced_polygons_of_a_drawing }
