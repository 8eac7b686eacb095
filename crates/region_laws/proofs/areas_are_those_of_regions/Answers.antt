-- Each link is that of one step of one arc, and an arc with both of its faces in the set adds nothing.
use Rattle.region_laws.proofs.Areas.{areas_are_those_of_regions}
use Rattle.region_laws.proofs.areas_are_those_of_regions.Goals as goal

pub returns : goal.returns
returns c = record { holds = areas_are_those_of_regions }
