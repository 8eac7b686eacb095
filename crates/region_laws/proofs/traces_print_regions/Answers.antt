-- A trace holds its set of faces, and the set follows the region.
use Rattle.region_laws.proofs.Prints.{traces_print_regions}
use Rattle.region_laws.proofs.traces_print_regions.Goals as goal

pub returns : goal.returns
returns c = record { holds = traces_print_regions }
