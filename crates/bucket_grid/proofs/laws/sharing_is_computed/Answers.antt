use Rattle.bucket_grid.proofs.SharedPoints.{sharing_is_computed}
use Rattle.bucket_grid.proofs.laws.sharing_is_computed.Goals as goal

pub returns : goal.returns
returns c = record { holds = sharing_is_computed }
