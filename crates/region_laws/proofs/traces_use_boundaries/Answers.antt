-- A trace holds its set of faces, and the set follows the region.
use Rattle.region_laws.proofs.Prints.{traces_use_boundaries}
use Rattle.region_laws.proofs.traces_use_boundaries.Goals as goal

pub returns : goal.returns
returns c = record { holds = traces_use_boundaries }
