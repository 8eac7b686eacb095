-- A point of the region is held by one polygon, counted, and the readings agree.
use Rattle.printed_laws.proofs.Agreed.{regions_are_read}
use Rattle.printed_laws.proofs.regions_are_read.Goals as goal

pub returns : goal.returns
returns c = record { holds = regions_are_read }
