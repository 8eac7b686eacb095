-- Arcs in the boundary of a part of a set are those of the links that points of the part see.
use Rattle.region_laws.proofs.PartLaws.{parts_are_followed}
use Rattle.region_laws.proofs.parts_are_followed.Goals as goal

pub returns : goal.returns
returns c = record { holds = parts_are_followed }
