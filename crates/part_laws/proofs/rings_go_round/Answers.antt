-- By the links that end at each vertex.
use Rattle.part_laws.proofs.RingLemmas.{rings_go_round}
use Rattle.part_laws.proofs.rings_go_round.Goals as goal

pub returns : goal.returns
returns c = record { holds = rings_go_round }
