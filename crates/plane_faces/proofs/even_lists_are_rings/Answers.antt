-- Follow links until a point comes again, and cut there.
use Rattle.plane_faces.proofs.Laws.{even_rings}
use Rattle.plane_faces.proofs.even_lists_are_rings.Goals as goal

pub returns : goal.returns
returns c = record { holds = even_rings }
