-- Arcs in the boundary of a part of a set are those of the links that points of the part see.
use Rattle.region_laws.proofs.PartLaws.{exploded_sets_are_followed}
use Rattle.region_laws.proofs.exploded_sets_are_followed.Goals as goal

pub returns : goal.returns
returns c = record { holds = exploded_sets_are_followed }
