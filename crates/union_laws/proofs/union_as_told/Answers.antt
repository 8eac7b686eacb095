-- The law is proved in `proofs/UnionTold.antt`.
use Rattle.union_laws.proofs.UnionTold.{union_as_told}
use Rattle.union_laws.proofs.union_as_told.Goals as goal

pub returns : goal.returns
returns c = record { holds = union_as_told }
