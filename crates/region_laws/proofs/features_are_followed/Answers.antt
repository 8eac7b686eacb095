-- A point has the parity of its place, and so have its holders.
use Rattle.region_laws.proofs.Held.{features_are_followed}
use Rattle.region_laws.proofs.features_are_followed.Goals as goal

pub returns : goal.returns
returns c = record { holds = features_are_followed }
