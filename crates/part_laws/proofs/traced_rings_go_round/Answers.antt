-- No ring uses one arc twice.
use Rattle.part_laws.proofs.TogetherLaws.{traced_rings_go_round}
use Rattle.part_laws.proofs.traced_rings_go_round.Goals as goal

pub returns : goal.returns
returns c = record { holds = traced_rings_go_round }
