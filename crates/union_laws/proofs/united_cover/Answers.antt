-- The law is proved in `proofs/Cover.antt`.
use Rattle.union_laws.proofs.Cover.{united_cover}
use Rattle.union_laws.proofs.united_cover.Goals as goal

pub returns : goal.returns
returns c = record { holds = united_cover }
