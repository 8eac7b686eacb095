-- The law is proved in `proofs/Apart.antt`.
use Rattle.union_laws.proofs.Apart.{united_are_apart}
use Rattle.union_laws.proofs.united_are_apart.Goals as goal

pub returns : goal.returns
returns c = record { holds = united_are_apart }
