-- The law is proved in `proofs/Insides.antt`.
use Rattle.line_laws.proofs.Insides.{insides_are_told}
use Rattle.line_laws.proofs.insides_are_told.Goals as goal

pub returns : goal.returns
returns c = record { holds = insides_are_told }
