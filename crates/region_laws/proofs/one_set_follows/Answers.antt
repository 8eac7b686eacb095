-- The side of a link belongs to the region exactly if its face is in each of the sets.
use Rattle.region_laws.proofs.TieLaws.{one_set_follows}
use Rattle.region_laws.proofs.one_set_follows.Goals as goal

pub returns : goal.returns
returns c = record { holds = one_set_follows }
