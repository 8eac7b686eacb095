-- A gap goes to the first in rank of the sets across its boundary, as it is told of regions.
use Rattle.region_laws.proofs.FilledTold.{filled_as_told}
use Rattle.region_laws.proofs.filled_as_told.Goals as goal

pub returns : goal.returns
returns c = record { holds = filled_as_told }
