-- Two parts have no face in common.
use Rattle.part_laws.proofs.ApartLaws.{polygons_are_apart}
use Rattle.part_laws.proofs.polygons_are_apart.Goals as goal

pub returns : goal.returns
returns c = record { holds = polygons_are_apart }
