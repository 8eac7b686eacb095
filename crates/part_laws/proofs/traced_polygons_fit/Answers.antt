-- The arc of each step is found by its link.
use Rattle.part_laws.proofs.FitLaws.{traced_polygons_fit}
use Rattle.part_laws.proofs.traced_polygons_fit.Goals as goal

pub returns : goal.returns
returns c = record { holds = traced_polygons_fit }
